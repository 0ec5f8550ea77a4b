-- A pen that goes over marks one by one: what it has still to come to, that pairs only come, and how far it has moved. Assumes nothing.
use Rattle.std.proofs.Common.{◌≡◌, ℕ, ◌+◌, ◌*◌, ◌<◌, ◌≤◌, List, [], ◌∷◌, ◌++◌, length, get_or, take, drop, ℤ, Some, None, Option, sym, refl, ap, ◌∙◌, subst, arith, length-append}
use Rattle.std.proofs.lemmas.List.{take-append-le, drop_more, drop_all}
use Rattle.numbers.specs.Bytes.{digits, complement}
use Rattle.numbers.proofs.Digits.{length_digits}
use Rattle.shelf.specs.declared.marks.Mark.{Mark}
use Rattle.shelf.specs.declared.marks.Mark.TheVariants.{Glyph, Rule}
use Rattle.shelf.specs.Meaning.{Facts}
use Rattle.copies.specs.declared.pairs.Pair.{Pair}
use Rattle.copies.specs.Pairs.{pair_by, entered}
use Rattle.copies.specs.Marks.{Pen, move_width, move_bytes, define_bytes, selecting, font_bytes, moved_to, mark_bytes, pen_after, pen_after_all}

-- what a pen that set out from another has come to before the marks from i on
pub record Onward (F : ℕ → Facts) (first : Pen) (ms : List Mark) (i : ℕ) (pen : Pen) : Type 0 where
  pub rest : pen_after_all F pen (drop i ms) ≡ pen_after_all F first ms
  pub kept : take (length first.pairs) pen.pairs ≡ first.pairs
  pub grown : length first.pairs ≤ length pen.pairs
  pub short : pen.at + 79 * length first.pairs ≤ first.at + 19 * i + 79 * length pen.pairs

width_short : (z : ℤ) → move_width z ≤ 4
width_short z = grind arith

move_short : (b : ℕ) (z : ℤ) → length (move_bytes b z) ≤ 5
unfolding move_bytes
move_short b z = let w = width_short z in let d = length_digits (move_width z) (complement (move_width z) z) in grind arith

moves_short : (pen : Pen) (m : Mark) → length (moved_to pen m) ≤ 10
moves_short pen m = grind (arith, length-append, move_short)

define_short : (n size : ℕ) (f : Facts) → length f.name < 64 → length (define_bytes n size f) ≤ 79
unfolding define_bytes
define_short n size f h = grind arith

select_short : (last : Option ℕ) (n : ℕ) → length (selecting last n) ≤ 1
select_short last n = grind arith

font_short : (F : ℕ → Facts) (pen : Pen) (o : Option ℕ) (p : Pair) → length (F p.face).name < 64 → length (font_bytes F pen o p.face p.size) + 79 * length pen.pairs ≤ 1 + 79 * length (entered pen.pairs o p)
font_short F pen None p h = grind (arith, length-append, define_short, select_short)
font_short F pen (Some n) p h = grind (arith, select_short)

-- a mark takes at most 19 bytes, and its new pair 79
mark_short : (F : ℕ → Facts) (pen : Pen) (m : Mark) → ((k : ℕ) → length (F k).name < 64) → length (mark_bytes F pen m) + 79 * length pen.pairs ≤ 19 + 79 * length (pen_after F pen m).pairs
unfolding mark_bytes pen_after
mark_short F pen (Rule height width h v) names = let s = moves_short pen (Rule height width h v) in omega (arith, s, length-append (moved_to pen (Rule height width h v)) (137 ∷ (digits 4 height ++ digits 4 width)))
mark_short F pen (Glyph face size code h v) names =
    let m : Mark = Glyph face size code h v in
    let o = pair_by pen.pairs face size in
    let p : Pair = record { face = face; size = size; place = pen.at + length (moved_to pen m) } in
    let s = moves_short pen m in
    let f = font_short F pen o p (names face) in
    omega (arith, s, f, length-append (moved_to pen m) (font_bytes F pen o face size ++ (133 ∷ code ∷ [])), length-append (font_bytes F pen o face size) (133 ∷ code ∷ []))

entered_kept : (n : ℕ) (ps : List Pair) (o : Option ℕ) (p : Pair) → n ≤ length ps → take n (entered ps o p) ≡ take n ps
entered_kept n ps (Some k) p h = refl
entered_kept n ps None p h = take-append-le n ps (p ∷ []) h

entered-grown : (ps : List Pair) (o : Option ℕ) (p : Pair) → length ps ≤ length (entered ps o p)
entered-grown ps (Some k) p = omega arith
entered-grown ps None p = omega (arith, length-append ps (p ∷ []))

mark_kept : (F : ℕ → Facts) (n : ℕ) (pen : Pen) (m : Mark) → n ≤ length pen.pairs → take n (pen_after F pen m).pairs ≡ take n pen.pairs
unfolding pen_after
mark_kept F n pen (Rule height width h v) le = refl
mark_kept F n pen (Glyph face size code h v) le = entered_kept n pen.pairs (pair_by pen.pairs face size) _ le

mark_grown : (F : ℕ → Facts) (pen : Pen) (m : Mark) → length pen.pairs ≤ length (pen_after F pen m).pairs
unfolding pen_after
mark_grown F pen (Rule height width h v) = omega arith
mark_grown F pen (Glyph face size code h v) = entered-grown pen.pairs (pair_by pen.pairs face size) _

pub marks_grown : (F : ℕ → Facts) (pen : Pen) (ms : List Mark) → length pen.pairs ≤ length (pen_after_all F pen ms).pairs
unfolding pen_after_all
marks_grown F pen [] = omega arith
marks_grown F pen (m ∷ ms) = let a = mark_grown F pen m in let b = marks_grown F (pen_after F pen m) ms in omega arith

at_after : (F : ℕ → Facts) (pen : Pen) (m : Mark) → (pen_after F pen m).at ≡ pen.at + length (mark_bytes F pen m)
unfolding pen_after
at_after F pen m = refl

-- the rest begins with the mark at i
rest_more : (F : ℕ → Facts) (pen : Pen) (ms : List Mark) (i : ℕ) (d : Mark) → i < length ms → pen_after_all F pen (drop i ms) ≡ pen_after_all F (pen_after F pen (get_or ms i d)) (drop (i + 1) ms)
unfolding pen_after_all
rest_more F pen ms i d lt = ap (pen_after_all F pen) (drop_more ms i d lt)

module _ (F : ℕ → Facts) (first : Pen) (ms : List Mark) where
  pub onward_more : (i : ℕ) (pen next : Pen) (d : Mark) → ((k : ℕ) → length (F k).name < 64) → i < length ms → next ≡ pen_after F pen (get_or ms i d) → Onward F first ms i pen → Onward F first ms (i + 1) next
  onward_more i pen next d names lt e w =
      let m : Mark = get_or ms i d in
      let s = mark_short F pen m names in
      let a = at_after F pen m in
      let g = mark_grown F pen m in
      subst (Onward F first ms (i + 1)) (sym e)
      (record {
        rest = sym (rest_more F pen ms i d lt) ∙ w.rest;
        kept = mark_kept F (length first.pairs) pen m w.grown ∙ w.kept;
        grown = omega (arith, g, w.grown);
        short = omega (arith, s, a, w.short);
      })

  pub onward-all : (i : ℕ) (pen : Pen) → length ms ≤ i → Onward F first ms i pen → pen ≡ pen_after_all F first ms
  unfolding pen_after_all
  onward-all i pen le w = ap (pen_after_all F pen) (sym (drop_all i ms le)) ∙ w.rest

  -- what a mark refuses, they all do
  pub onward-full : (i : ℕ) (pen : Pen) (d : Mark) → i < length ms → 64 < length (pen_after F pen (get_or ms i d)).pairs → Onward F first ms i pen → 64 < length (pen_after_all F first ms).pairs
  onward-full i pen d lt h w =
      let g = marks_grown F (pen_after F pen (get_or ms i d)) (drop (i + 1) ms) in
      let e = sym (rest_more F pen ms i d lt) ∙ w.rest in
      omega (arith, g, h, ap (λ (p : Pen). length p.pairs) e)
