-- No rank, the first, and those behind.
use Rattle.std.proofs.Common.{◌∙◌}
use Rattle.stacks.proofs.Numbered.{no_rank, on_first, behind}
use Rattle.stacks.proofs.fonts.+font_in.Goals as goal

pub returns-in_default : goal.returns-in_default
returns-in_default t c = no_rank _ _ c.in_default.len_below

pub returns-then-number-fonts : goal.returns-then-number-fonts
returns-then-number-fonts t c = on_first _ _ _ _ _ c.in-len1-up.len_at_least c.first-item.is c.as_slice-fonts.ensures.value c.if-number-fonts.true

pub returns-else-number-fonts : goal.returns-else-number-fonts
returns-else-number-fonts t c = c.font_in.ensures ∙ behind _ _ _ _ c.in-len1-up.len_at_least c.first-item.is c.as_slice-fonts.ensures.value c.if-number-fonts.false
