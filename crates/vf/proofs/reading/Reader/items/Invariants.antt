-- What is read from the start on is what is read from here on.
use Rattle.std.proofs.Common.{◌≡◌, ◌-◌, ◌≤◌, length}
use Rattle.vf.specs.Files.{walk, reading_of}
use Rattle.vf.proofs.reading.Reader.items.Given as goal

abbrev pub invariant-loop-at : goal.invariant-loop-at
invariant-loop-at g l =
    (l.at ≤ length l.file)
    × (walk (g.S.Shelf.means l.below).names l.file 0 l.initial.at (length l.file - l.initial.at) (reading_of l.initial.self)
    ≡ walk (g.S.Shelf.means l.below).names l.file 0 l.at (length l.file - l.at) (reading_of l.self))

abbrev pub decreases-loop-at : goal.decreases-loop-at
decreases-loop-at g l = length l.file - l.at
