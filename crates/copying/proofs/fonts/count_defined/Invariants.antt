use Rattle.copying.proofs.Counts.{SoFar}
use Rattle.copying.proofs.fonts.count_defined.Given as goal

abbrev pub invariant-loop-definition : goal.invariant-loop-definition
invariant-loop-definition l = SoFar l.entries l.definition-iterator l.count
