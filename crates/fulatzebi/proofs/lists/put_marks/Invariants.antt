use Rattle.std.proofs.Common.{◌≡◌, map, ◌≤◌, min, length, take}
use Rattle.shelf.specs.Answers.{overlay}
use Rattle.fulatzebi.specs.Records.{mark_record}
use Rattle.fulatzebi.proofs.lists.put_marks.Given as goal

abbrev pub invariant-loop-k : goal.invariant-loop-k
invariant-loop-k l = (l.to ≡ overlay (map mark_record (take l.k l.from)) l.initial.to) × (l.k ≤ min (length l.from) (length l.initial.to)) × (length l.to ≡ length l.initial.to)
