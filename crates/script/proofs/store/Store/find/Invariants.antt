use Rattle.std.proofs.Common.{◌≡◌, ◌≤◌, length, take}
use Rattle.script.specs.Naming.{bytes_of, last_given}
use Rattle.script.proofs.store.Store.find.Given as goal

abbrev pub invariant-loop-i : goal.invariant-loop-i
invariant-loop-i l = record { within : l.i ≤ length l.list; goes_on : bytes_of l.self l.name ≡ last_given l.name (take l.i l.list) }

abbrev pub decreases-loop-i : goal.decreases-loop-i
decreases-loop-i l = l.i
