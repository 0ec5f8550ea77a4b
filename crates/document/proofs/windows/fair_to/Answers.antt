-- An unfair command, one fair command more, and the end.
use Rattle.document.proofs.Joins.{unfair_here, fair_on, fair_all}
use Rattle.document.proofs.windows.fair_to.Goals as goal

pub returns-then-is_unfair : goal.returns-then-is_unfair
returns-then-is_unfair c = unfair_here _ _ _ c.loop-at.invariant _ c.in-Some.ensures.steps c.if-is_unfair.ensures

pub loop-at-preserved : goal.loop-at-preserved
loop-at-preserved c = fair_on _ _ _ c.loop-at.invariant _ c.in-Some.ensures.steps c.if-is_unfair.ensures

pub returns : goal.returns
returns c = fair_all _ _ c.loop-at.invariant c.in-None.ensures.steps
