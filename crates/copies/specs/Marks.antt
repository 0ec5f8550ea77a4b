-- The bytes that a copy writes for marks: each is its move from the mark before, and then a rule or a glyph.
use Rattle.std.specs.Prelude.{ℕ, ◌+◌, ◌/◌, Bool, false, cond, List, [], ◌∷◌, ◌++◌, length, ℤ, ◌-ℤ◌, Some, None, Option, ◌==◌, unsigned_abs}
use Rattle.std.specs.Option.{unwrap_or}
use Rattle.numbers.specs.Bytes.{digits, complement, signed_fits}
use Rattle.shelf.specs.declared.marks.Mark.{Mark}
use Rattle.shelf.specs.declared.marks.Mark.TheVariants.{Glyph, Rule}
use Rattle.shelf.specs.Meaning.{Meaning, Facts, told_of}
use Rattle.copies.specs.declared.pairs.Pair.{Pair}
use Rattle.copies.specs.Pairs.{pair_by, numbered, entered}

-- the fewest bytes that hold a length in two's complement
abbrev pub move_width : ℤ → ℕ
move_width z = cond (signed_fits 1 z) 1 (cond (signed_fits 2 z) 2 (cond (signed_fits 3 z) 3 4))

-- a move in its shortest form, nothing for 0; the command's byte is this one and the width
unfoldable pub move_bytes : ℕ → ℤ → List ℕ
move_bytes byte z = cond (unsigned_abs z == 0) [] ((byte + move_width z) ∷ digits (move_width z) (complement (move_width z) z))

-- 243: a number, the face's check sum, the size, the design size in 2^-16 points, the name
unfoldable pub define_bytes : ℕ → ℕ → Facts → List ℕ
define_bytes n size f =
    243 ∷ (digits 1 n ++ (digits 4 f.checksum ++ (digits 4 size ++ (digits 4 (f.design / 16) ++ (0 ∷ (digits 1 (length f.name) ++ f.name))))))

-- what is told of a face; no shelf has a mark of a face that it lacks
abbrev pub facts_or : Option Facts → Facts
facts_or f = unwrap_or f (record { name = []; checksum = 0; design = 0 })

abbrev pub faces_of : Meaning → ℕ → Facts
faces_of m k = facts_or (told_of m k)

-- where the writer of a page stands: the position, the page's last selected number, the pairs so far, the place of the next byte
pub record Pen : Type 0 where
  pub h : ℤ
  pub v : ℤ
  pub last : Option ℕ
  pub pairs : List Pair
  pub at : ℕ

abbrev pub mark_h : Mark → ℤ
mark_h (Glyph face size code h v) = h
mark_h (Rule height width h v) = h

abbrev pub mark_v : Mark → ℤ
mark_v (Glyph face size code h v) = v
mark_v (Rule height width h v) = v

-- the move to a mark: right by 143 to 146, then down by 157 to 160
abbrev pub moved_to : Pen → Mark → List ℕ
moved_to pen m = move_bytes 142 (mark_h m -ℤ pen.h) ++ move_bytes 156 (mark_v m -ℤ pen.v)

-- by cases, since std has no word for an Option that holds a given number
abbrev pub is_last : Option ℕ → ℕ → Bool
is_last None n = false
is_last (Some m) n = m == n

-- 171 and the number, if it is not the page's last selected
abbrev pub selecting : Option ℕ → ℕ → List ℕ
selecting last n = cond (is_last last n) [] ((171 + n) ∷ [])

-- the selection of a pair by its number; a new one is defined first
abbrev pub font_bytes : (ℕ → Facts) → Pen → Option ℕ → ℕ → ℕ → List ℕ
font_bytes F pen (Some n) face size = selecting pen.last n
font_bytes F pen None face size = define_bytes (length pen.pairs) size (F face) ++ selecting pen.last (length pen.pairs)

abbrev pub shape_bytes : (ℕ → Facts) → Pen → Mark → List ℕ
shape_bytes F pen (Glyph face size code h v) = font_bytes F pen (pair_by pen.pairs face size) face size ++ (133 ∷ code ∷ [])
shape_bytes F pen (Rule height width h v) = 137 ∷ (digits 4 height ++ digits 4 width)

unfoldable pub mark_bytes : (ℕ → Facts) → Pen → Mark → List ℕ
mark_bytes F pen m = moved_to pen m ++ shape_bytes F pen m

-- the last selected number and the pairs after a mark
abbrev pub last_after : Pen → Mark → Option ℕ
last_after pen (Glyph face size code h v) = Some (numbered pen.pairs (pair_by pen.pairs face size))
last_after pen (Rule height width h v) = pen.last

abbrev pub pairs_after : Pen → Mark → List Pair
pairs_after pen (Glyph face size code h v) =
    entered pen.pairs (pair_by pen.pairs face size) (record { face = face; size = size; place = pen.at + length (moved_to pen (Glyph face size code h v)) })
pairs_after pen (Rule height width h v) = pen.pairs

unfoldable pub pen_after : (ℕ → Facts) → Pen → Mark → Pen
pen_after F pen m = record { h = mark_h m; v = mark_v m; last = last_after pen m; pairs = pairs_after pen m; at = pen.at + length (mark_bytes F pen m) }

unfoldable pub marks_bytes : (ℕ → Facts) → Pen → List Mark → List ℕ
marks_bytes F pen [] = []
marks_bytes F pen (m ∷ ms) = mark_bytes F pen m ++ marks_bytes F (pen_after F pen m) ms

unfoldable pub pen_after_all : (ℕ → Facts) → Pen → List Mark → Pen
pen_after_all F pen [] = pen
pen_after_all F pen (m ∷ ms) = pen_after_all F (pen_after F pen m) ms
