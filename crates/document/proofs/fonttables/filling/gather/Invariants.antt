-- The places so far stand at the front of the table.
use Rattle.std.proofs.Common.{◌≤◌, length, take}
use Rattle.document.proofs.Gathered.{Gathered}
use Rattle.document.proofs.fonttables.filling.gather.Given as goal

abbrev pub invariant-loop-at : goal.invariant-loop-at
invariant-loop-at l = (l.count ≤ length l.table) × Gathered l.fn.entries l.at-iterator (take l.count l.table)
