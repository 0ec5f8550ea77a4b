-- No command so far is unfair.
use Rattle.std.proofs.Common.{Some}
use Rattle.document.specs.Windows.{wrong}
use Rattle.document.proofs.Walks.{Walked}
use Rattle.document.proofs.windows.fair_to.Given as goal

abbrev pub invariant-loop-at : goal.invariant-loop-at
invariant-loop-at l = Walked (wrong l.entries.front.now (Some 0)) l.entries l.at-iterator
