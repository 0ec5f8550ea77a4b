-- The table has the numbers so far, and none of the window has come twice.
use Rattle.document.proofs.Notes.{Sofar}
use Rattle.document.proofs.windows.window.Given as goal

abbrev pub invariant-loop-at : goal.invariant-loop-at
invariant-loop-at g l = Sofar g.row.N l.entries l.lo l.at-iterator l.seen
