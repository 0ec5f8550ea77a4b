use Rattle.std.proofs.Common.{◌≡◌, ◌+◌, ◌≤◌, drop, length}
use Rattle.replay.specs.Cases.{alike}
use Rattle.replay.proofs.comparing.count_alike.Given as goal

abbrev pub invariant-loop-place : goal.invariant-loop-place
invariant-loop-place l = (l.place ≤ length l.got) × (l.place + alike (drop l.place l.wanted) (drop l.place l.got) ≡ alike l.wanted l.got)
