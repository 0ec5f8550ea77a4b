-- The bytes of a mark in their parts: the move, the font or nothing, and what makes the mark. Assumes nothing.
use Rattle.std.proofs.Common.{◌≡◌, ℕ, ◌+◌, ◌≤◌, List, [], ◌∷◌, ◌++◌, length, ℤ, ◌-ℤ◌, Some, None, Option, refl, ap, ◌∙◌, arith, length-append}
use Rattle.numbers.specs.Bytes.{digits}
use Rattle.shelf.specs.declared.marks.Mark.TheVariants.{Glyph, Rule}
use Rattle.shelf.specs.Meaning.{Facts}
use Rattle.copies.specs.declared.pairs.Pair.{Pair}
use Rattle.copies.specs.Pairs.{pair_by, numbered, entered}
use Rattle.copies.specs.Marks.{Pen, move_bytes, selecting, font_bytes, mark_bytes, pen_after}
use Rattle.copies.specs.Writing.{overwritten}
use Rattle.writing.specs.Pens.{defining}
use Rattle.writing.proofs.Overwrites.{over_two, over_room}

font-is : (F : ℕ → Facts) (pen : Pen) (o : Option ℕ) (face size : ℕ) → defining F pen.pairs o face size ++ selecting pen.last (numbered pen.pairs o) ≡ font_bytes F pen o face size
font-is F pen (Some n) face size = refl
font-is F pen None face size = refl

abbrev pub moves : Pen → ℤ → ℤ → List ℕ
moves pen h v = move_bytes 142 (h -ℤ pen.h) ++ move_bytes 156 (v -ℤ pen.v)

module _ (F : ℕ → Facts) (pen : Pen) (face size code : ℕ) (h v : ℤ) (number : ℕ) (def : List ℕ)
    (number-is : number ≡ numbered pen.pairs (pair_by pen.pairs face size)) (def-is : def ≡ defining F pen.pairs (pair_by pen.pairs face size) face size) where
  here : def ++ selecting pen.last number ≡ font_bytes F pen (pair_by pen.pairs face size) face size
  here = rw (number-is, def-is) (font-is F pen (pair_by pen.pairs face size) face size)

  glyph-is : moves pen h v ++ ((def ++ selecting pen.last number) ++ (133 ∷ code ∷ [])) ≡ mark_bytes F pen (Glyph face size code h v)
  unfolding mark_bytes
  glyph-is = ap (λ x. moves pen h v ++ (x ++ (133 ∷ code ∷ []))) here

  glyph-length : length (moves pen h v) + length (def ++ selecting pen.last number) + 2 ≡ length (mark_bytes F pen (Glyph face size code h v))
  glyph-length = omega (arith, ap length glyph-is, length-append (moves pen h v) ((def ++ selecting pen.last number) ++ (133 ∷ code ∷ [])), length-append (def ++ selecting pen.last number) (133 ∷ code ∷ []))

  -- the pen behind a glyph
  pub glyph_after : (at next : ℕ) (pairs : List Pair) → at ≡ pen.at + length (moves pen h v) → next ≡ at + length (def ++ selecting pen.last number) + 2
      → pairs ≡ entered pen.pairs (pair_by pen.pairs face size) (record { face = face; size = size; place = at })
      → record { h = h; v = v; last = Some number; pairs = pairs; at = next } ≡ pen_after F pen (Glyph face size code h v)
  unfolding pen_after
  glyph_after at next pairs e f p =
      let n : next ≡ pen.at + length (mark_bytes F pen (Glyph face size code h v)) = omega (arith, e, f, glyph-length) in
      rw (p, n, e, number-is) refl

  -- the bytes of a glyph, written in their parts
  module _ (was one two three : List ℕ) (at next : ℕ) (room : pen.at + length (mark_bytes F pen (Glyph face size code h v)) ≤ length was)
      (moved : one ≡ overwritten pen.at (moves pen h v) was) (behind : at ≡ pen.at + length (moves pen h v)) where
    all_room : pen.at + length (moves pen h v ++ ((def ++ selecting pen.last number) ++ (133 ∷ code ∷ []))) ≤ length was
    all_room = omega (arith, room, ap length glyph-is)

    rest_room : at + length ((def ++ selecting pen.last number) ++ (133 ∷ code ∷ [])) ≤ length one
    rest_room = over_room pen.at at (moves pen h v) ((def ++ selecting pen.last number) ++ (133 ∷ code ∷ [])) was one moved behind all_room

    font_room : at + length (def ++ selecting pen.last number) ≤ length one
    font_room = omega (arith, rest_room, length-append (def ++ selecting pen.last number) (133 ∷ code ∷ []))

    pub glyph_written : (defined : List ℕ) (behind-it : ℕ) → defined ≡ overwritten at def one → behind-it ≡ at + length def → two ≡ overwritten behind-it (selecting pen.last number) defined → next ≡ behind-it + length (selecting pen.last number)
        → three ≡ overwritten next (133 ∷ code ∷ []) two → three ≡ overwritten pen.at (mark_bytes F pen (Glyph face size code h v)) was
    glyph_written defined behind-it d b s n last =
        let font : two ≡ overwritten at (def ++ selecting pen.last number) one = over_two at behind-it def (selecting pen.last number) one defined two d b s font_room in
        let there : next ≡ at + length (def ++ selecting pen.last number) = omega (arith, b, n, length-append def (selecting pen.last number)) in
        let rest : three ≡ overwritten at ((def ++ selecting pen.last number) ++ (133 ∷ code ∷ [])) one = over_two at next (def ++ selecting pen.last number) (133 ∷ code ∷ []) one two three font there last rest_room in
        over_two pen.at at (moves pen h v) ((def ++ selecting pen.last number) ++ (133 ∷ code ∷ [])) was one three moved behind rest all_room ∙ ap (λ x. overwritten pen.at x was) glyph-is

-- a rule
module _ (F : ℕ → Facts) (pen : Pen) (height width : ℕ) (h v : ℤ) where
  abbrev sides : List ℕ
  sides = 137 ∷ (digits 4 height ++ digits 4 width)

  rule-is : moves pen h v ++ sides ≡ mark_bytes F pen (Rule height width h v)
  unfolding mark_bytes
  rule-is = refl

  pub rule_after : (at : ℕ) → at ≡ pen.at + length (moves pen h v) + 9 → record { h = h; v = v; last = pen.last; pairs = pen.pairs; at = at } ≡ pen_after F pen (Rule height width h v)
  unfolding pen_after
  rule_after at e =
      let n : at ≡ pen.at + length (mark_bytes F pen (Rule height width h v)) = omega (arith, e, ap length rule-is, length-append (moves pen h v) sides) in
      rw n refl

  pub rule_written : (was one two : List ℕ) (at : ℕ) → pen.at + length (mark_bytes F pen (Rule height width h v)) ≤ length was → one ≡ overwritten pen.at (moves pen h v) was → at ≡ pen.at + length (moves pen h v)
      → two ≡ overwritten at sides one → two ≡ overwritten pen.at (mark_bytes F pen (Rule height width h v)) was
  rule_written was one two at room moved behind last =
      over_two pen.at at (moves pen h v) sides was one two moved behind last (omega (arith, room, ap length rule-is)) ∙ ap (λ x. overwritten pen.at x was) rule-is
