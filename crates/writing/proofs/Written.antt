-- A pen that writes marks one by one: the rest of the bytes stands where all of them will. Assumes nothing.
use Rattle.std.proofs.Common.{◌≡◌, ℕ, ◌+◌, ◌<◌, ◌≤◌, List, [], ◌∷◌, ◌++◌, length, get_or, drop, sym, refl, ap, ◌∙◌, arith, length-append}
use Rattle.std.proofs.lemmas.List.{drop_more, drop_all}
use Rattle.shelf.specs.declared.marks.Mark.{Mark}
use Rattle.shelf.specs.Meaning.{Facts}
use Rattle.copies.specs.Marks.{Pen, mark_bytes, pen_after, marks_bytes, pen_after_all}
use Rattle.copies.specs.Writing.{overwritten}
use Rattle.writing.proofs.Overwrites.{over_more, over_none, length_over}
use Rattle.writing.proofs.Passed.{Onward, onward_more}

-- the place behind all marks
pub length-marks : (F : ℕ → Facts) (pen : Pen) (ms : List Mark) → pen.at + length (marks_bytes F pen ms) ≡ (pen_after_all F pen ms).at
unfolding marks_bytes pen_after_all pen_after
length-marks F pen [] = omega arith
length-marks F pen (m ∷ ms) =
    let r = length-marks F (pen_after F pen m) ms in
    omega (arith, r, length-append (mark_bytes F pen m) (marks_bytes F (pen_after F pen m) ms))

pub record Written (F : ℕ → Facts) (first : Pen) (ms : List Mark) (i : ℕ) (pen : Pen) (was out : List ℕ) : Type 0 where
  pub onward : Onward F first ms i pen
  pub over : overwritten pen.at (marks_bytes F pen (drop i ms)) out ≡ overwritten first.at (marks_bytes F first ms) was
  pub long : length out ≡ length was

bytes_more : (F : ℕ → Facts) (pen : Pen) (ms : List Mark) (i : ℕ) (d : Mark) → i < length ms → marks_bytes F pen (drop i ms) ≡ mark_bytes F pen (get_or ms i d) ++ marks_bytes F (pen_after F pen (get_or ms i d)) (drop (i + 1) ms)
unfolding marks_bytes
bytes_more F pen ms i d lt = ap (marks_bytes F pen) (drop_more ms i d lt)

bytes_none : (F : ℕ → Facts) (pen : Pen) (ms : List Mark) (i : ℕ) → length ms ≤ i → marks_bytes F pen (drop i ms) ≡ []
unfolding marks_bytes
bytes_none F pen ms i le = ap (marks_bytes F pen) (drop_all i ms le)

at_after : (F : ℕ → Facts) (pen : Pen) (m : Mark) → (pen_after F pen m).at ≡ pen.at + length (mark_bytes F pen m)
unfolding pen_after
at_after F pen m = refl

module _ (F : ℕ → Facts) (first : Pen) (ms : List Mark) (was : List ℕ) (room : (pen_after_all F first ms).at ≤ length was) where
  -- the rest of the bytes has room
  rest_room : (i : ℕ) (pen : Pen) (out : List ℕ) → Written F first ms i pen was out → pen.at + length (marks_bytes F pen (drop i ms)) ≤ length out
  rest_room i pen out w = omega (arith, length-marks F pen (drop i ms), ap (λ (p : Pen). p.at) w.onward.rest, w.long, room)

  pub mark_room : (i : ℕ) (pen : Pen) (out : List ℕ) (d : Mark) → i < length ms → Written F first ms i pen was out → pen.at + length (mark_bytes F pen (get_or ms i d)) ≤ length out
  mark_room i pen out d lt w =
      let m : Mark = get_or ms i d in
      omega (arith, rest_room i pen out w, ap length (bytes_more F pen ms i d lt), length-append (mark_bytes F pen m) (marks_bytes F (pen_after F pen m) (drop (i + 1) ms)))

  pub written_more : (i : ℕ) (pen next : Pen) (out new : List ℕ) (d : Mark) → ((k : ℕ) → length (F k).name < 64) → i < length ms → next ≡ pen_after F pen (get_or ms i d) → new ≡ overwritten pen.at (mark_bytes F pen (get_or ms i d)) out → Written F first ms i pen was out → Written F first ms (i + 1) next was new
  written_more i pen next out new d names lt e p w =
      let m : Mark = get_or ms i d in
      let after : Pen = pen_after F pen m in
      let rest : List ℕ = marks_bytes F after (drop (i + 1) ms) in
      let all : marks_bytes F pen (drop i ms) ≡ mark_bytes F pen m ++ rest = bytes_more F pen ms i d lt in
      let fits : after.at + length rest ≤ length out = omega (arith, rest_room i pen out w, ap length all, length-append (mark_bytes F pen m) rest, at_after F pen m) in
      record {
        onward = onward_more F first ms i pen next d names lt e w.onward;
        over =
            ap (λ (q : Pen). overwritten q.at (marks_bytes F q (drop (i + 1) ms)) new) e
            ∙ ap (overwritten after.at rest) p
            ∙ over_more pen.at after.at (mark_bytes F pen m) rest out (at_after F pen m) fits
            ∙ ap (λ x. overwritten pen.at x out) (sym all)
            ∙ w.over;
        long = ap length p ∙ length_over pen.at (mark_bytes F pen m) out (omega (arith, at_after F pen m, fits)) ∙ w.long;
      }

  pub written-all : (i : ℕ) (pen : Pen) (out : List ℕ) → length ms ≤ i → Written F first ms i pen was out → out ≡ overwritten first.at (marks_bytes F first ms) was
  written-all i pen out le w =
      let none = bytes_none F pen ms i le in
      sym (over_none pen.at out) ∙ ap (λ x. overwritten pen.at x out) (sym none) ∙ w.over
