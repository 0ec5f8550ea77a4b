use Rattle.std.proofs.Common.{◌≡◌, ◌++◌, take}
use Rattle.std.specs.Prelude.{map}
use Rattle.replay.specs.declared.comparing.Outcome.TheVariants.{Extra}
use Rattle.replay.proofs.comparing.push_extra.Given as goal

abbrev pub invariant-loop-case : goal.invariant-loop-case
invariant-loop-case l = l.all.items ≡ l.initial.all.items ++ map (λ case. Extra case) (take l.case-index l.cases)
