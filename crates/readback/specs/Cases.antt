-- Short lists of marks with the bytes that a copy writes for them.
use Rattle.std.specs.Prelude.{◌≡◌, ℕ, List, [], ◌∷◌, pos, negsuc, None}
use Rattle.shelf.specs.declared.marks.Mark.{Mark}
use Rattle.shelf.specs.declared.marks.Mark.TheVariants.{Glyph, Rule}
use Rattle.shelf.specs.Meaning.{Facts}
use Rattle.copies.specs.declared.pairs.Pair.{Pair}
use Rattle.copies.specs.Marks.{Pen, move_bytes, marks_bytes, pen_after_all}

-- every face is b, of check sum 258 and a design size of 10 points
abbrev told : ℕ → Facts
told k = record { name = 98 ∷ []; checksum = 258; design = 10485760 }

-- the marks of a page whose first byte is that of place 60
abbrev first : Pen
first = record { h = pos 0; v = pos 0; last = None; pairs = []; at = 60 }

abbrev bytes_of : List Mark → List ℕ
bytes_of ms = marks_bytes told first ms

abbrev pairs_of : List Mark → List Pair
pairs_of ms = (pen_after_all told first ms).pairs

-- a move takes the fewest bytes that hold it, and none for 0
abbrev Moves : Type 0
Moves =
    (move_bytes 142 (pos 127) ≡ 143 ∷ 127 ∷ [])
    × (move_bytes 142 (pos 128) ≡ 144 ∷ 0 ∷ 128 ∷ [])
    × (move_bytes 142 (negsuc 127) ≡ 143 ∷ 128 ∷ [])
    × (move_bytes 142 (negsuc 128) ≡ 144 ∷ 255 ∷ 127 ∷ [])
    × (move_bytes 142 (pos 0) ≡ [])
    × (move_bytes 142 (pos 32768) ≡ 145 ∷ 0 ∷ 128 ∷ 0 ∷ [])
    × (move_bytes 156 (pos 8388608) ≡ 160 ∷ 0 ∷ 128 ∷ 0 ∷ 0 ∷ [])
    × (move_bytes 156 (negsuc 0) ≡ 157 ∷ 255 ∷ [])

-- right by the difference of h, and then down by that of v
abbrev Positions : Type 0
Positions =
    (bytes_of (Rule 1 2 (pos 5) (pos 9) ∷ []) ≡ 143 ∷ 5 ∷ 157 ∷ 9 ∷ 137 ∷ 0 ∷ 0 ∷ 0 ∷ 1 ∷ 0 ∷ 0 ∷ 0 ∷ 2 ∷ [])
    × (bytes_of (Rule 1 2 (pos 5) (pos 9) ∷ Rule 1 2 (pos 5) (pos 7) ∷ []) ≡ 143 ∷ 5 ∷ 157 ∷ 9 ∷ 137 ∷ 0 ∷ 0 ∷ 0 ∷ 1 ∷ 0 ∷ 0 ∷ 0 ∷ 2 ∷ 157 ∷ 254 ∷ 137 ∷ 0 ∷ 0 ∷ 0 ∷ 1 ∷ 0 ∷ 0 ∷ 0 ∷ 2 ∷ [])

-- a pair is defined and selected at its first glyph; a rule in between leaves it selected
abbrev Selections : Type 0
Selections =
    (bytes_of (Glyph 3 655360 65 (pos 0) (pos 0) ∷ Rule 1 2 (pos 0) (pos 0) ∷ Glyph 3 655360 66 (pos 0) (pos 0) ∷ [])
    ≡ 243 ∷ 0 ∷ 0 ∷ 0 ∷ 1 ∷ 2 ∷ 0 ∷ 10 ∷ 0 ∷ 0 ∷ 0 ∷ 10 ∷ 0 ∷ 0 ∷ 0 ∷ 1 ∷ 98 ∷ 171 ∷ 133 ∷ 65 ∷ 137 ∷ 0 ∷ 0 ∷ 0 ∷ 1 ∷ 0 ∷ 0 ∷ 0 ∷ 2 ∷ 133 ∷ 66 ∷ [])
    × (bytes_of (Glyph 3 655360 65 (pos 0) (pos 0) ∷ Glyph 3 1 65 (pos 0) (pos 0) ∷ Glyph 3 655360 66 (pos 0) (pos 0) ∷ [])
    ≡ 243 ∷ 0 ∷ 0 ∷ 0 ∷ 1 ∷ 2 ∷ 0 ∷ 10 ∷ 0 ∷ 0 ∷ 0 ∷ 10 ∷ 0 ∷ 0 ∷ 0 ∷ 1 ∷ 98 ∷ 171 ∷ 133 ∷ 65
    ∷ 243 ∷ 1 ∷ 0 ∷ 0 ∷ 1 ∷ 2 ∷ 0 ∷ 0 ∷ 0 ∷ 1 ∷ 0 ∷ 10 ∷ 0 ∷ 0 ∷ 0 ∷ 1 ∷ 98 ∷ 172 ∷ 133 ∷ 65 ∷ 171 ∷ 133 ∷ 66 ∷ [])
    × (pairs_of (Glyph 3 655360 65 (pos 5) (pos 0) ∷ Glyph 3 1 65 (pos 0) (pos 0) ∷ Glyph 3 655360 66 (pos 0) (pos 0) ∷ [])
    ≡ record { face = 3; size = 655360; place = 62 } ∷ record { face = 3; size = 1; place = 84 } ∷ [])

abbrev pub WorkedMarks : Type 0
WorkedMarks = Moves × Positions × Selections
