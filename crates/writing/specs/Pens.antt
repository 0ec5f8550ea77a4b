-- A pen, with the pairs of the table beside it.
use Rattle.std.specs.Prelude.{ℕ, List, [], length, Some, None, Option}
use Rattle.shelf.specs.Meaning.{Facts}
use Rattle.copies.specs.declared.pairs.Pair.{Pair}
use Rattle.copies.specs.Marks.{Pen, define_bytes}
use Rattle.writing.specs.declared.pens.Pen.{Pen as Held}

abbrev pub pen_of : Held → List Pair → Pen
pen_of p ps = record { h = p.h; v = p.v; last = p.last; pairs = ps; at = p.at }

-- the definition of a pair where no pair has its number yet
abbrev pub defining : (ℕ → Facts) → List Pair → Option ℕ → ℕ → ℕ → List ℕ
defining F ps (Some n) face size = []
defining F ps None face size = define_bytes (length ps) size (F face)
