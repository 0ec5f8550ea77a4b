-- All four ranks over the faces.
use Rattle.std.proofs.Common.{sym, ◌∙◌}
use Rattle.fulatzebi.proofs.Stacks.{all_laid, last_refused}
use Rattle.fulatzebi.proofs.layers.stack_of.Goals as goal

pub returns-clause-made : goal.returns-clause-made
returns-clause-made c = all_laid c.args.bundle.bytes.now c.args.bundle.fonts.now (sym c.are_known.ensures ∙ c.if-not-are_known.false) _ _ _ _ (c.in_ok-faces.ensures) (c.in_ok-first.ensures.made) (c.in_ok-second.ensures.made) (c.in_ok-third.ensures.made) _ c.ranked-4.result c.ranked-4.ensures.made

pub returns-clause-refused : goal.returns-clause-refused
returns-clause-refused c = last_refused c.args.bundle.bytes.now c.args.bundle.fonts.now (sym c.are_known.ensures ∙ c.if-not-are_known.false) _ _ _ _ (c.in_ok-faces.ensures) (c.in_ok-first.ensures.made) (c.in_ok-second.ensures.made) (c.in_ok-third.ensures.made) c.ranked-4.result c.ranked-4.ensures.refused
