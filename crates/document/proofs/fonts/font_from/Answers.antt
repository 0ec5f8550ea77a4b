-- The definition that was sought, one command more, and the end.
use Rattle.std.proofs.Common.{rules}
use Rattle.document.proofs.Found.{found, sought_on, not_found}
use Rattle.document.proofs.fonts.font_from.Goals as goal

pub returns-then-is_some_and : goal.returns-then-is_some_and
returns-then-is_some_and c = found _ _ _ _ c.loop-definition.invariant _ c.in-Some.ensures.steps c.requires (search rules)

pub loop-definition-preserved : goal.loop-definition-preserved
loop-definition-preserved c = sought_on _ _ _ _ c.loop-definition.invariant _ c.in-Some.ensures.steps (search rules)

pub returns : goal.returns
returns c = not_found _ _ _ c.loop-definition.invariant c.requires c.in-None.ensures.steps
