use Rattle.replay.proofs.Cases.{SoFar}
use Rattle.replay.proofs.comparing.outcomes_of.Given as goal

abbrev pub invariant-loop-case : goal.invariant-loop-case
invariant-loop-case l = SoFar l.wanted l.got l.all.items l.case-index l.at
