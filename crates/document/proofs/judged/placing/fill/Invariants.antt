-- The places from the last page back stand in the table.
use Rattle.document.proofs.Placing.{Filled}
use Rattle.document.proofs.judged.placing.fill.Given as goal

abbrev pub invariant-loop-left : goal.invariant-loop-left
invariant-loop-left l = Filled l.bytes l.fn.document l.left l.place l.fn.table l.table

abbrev pub decreases-loop-left : goal.decreases-loop-left
decreases-loop-left l = l.left
