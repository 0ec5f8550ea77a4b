-- A page written in its parts: the front, the marks, the 140. Assumes nothing.
use Rattle.std.proofs.Common.{◌≡◌, ℕ, ◌+◌, ◌≤◌, List, [], ◌∷◌, ◌++◌, length, ap, ◌∙◌, arith, append_assoc, length-append}
use Rattle.numbers.specs.Bytes.{digits}
use Rattle.shelf.specs.declared.marks.Mark.{Mark}
use Rattle.shelf.specs.Meaning.{Facts}
use Rattle.copies.specs.Marks.{Pen, marks_bytes, pen_after_all}
use Rattle.copies.specs.Pages.{Progress, page_pen, page_bytes}
use Rattle.copies.specs.Writing.{overwritten}
use Rattle.writing.proofs.Overwrites.{over_more}
use Rattle.writing.proofs.Written.{length-marks}

module _ (F : ℕ → Facts) (g : Progress) (counts : List ℕ) (ms : List Mark) where
  abbrev first : Pen
  first = page_pen g

  -- the place of the 140
  abbrev pub end : ℕ
  end = (pen_after_all F first ms).at

  abbrev front : List ℕ
  front = 139 ∷ (counts ++ digits 4 g.last)

  pub front_room : (out : List ℕ) → end + 1 ≤ length out → g.used + 45 ≤ length out
  front_room out h = omega (arith, length-marks F first ms)

  pub laid_page : (was one two three bytes : List ℕ) (at : ℕ) → end + 1 ≤ length was → bytes ≡ front → length bytes ≡ 45 → at ≡ end → one ≡ overwritten g.used bytes was → two ≡ overwritten (g.used + 45) (marks_bytes F first ms) one → three ≡ overwritten at (140 ∷ []) two → three ≡ overwritten g.used (page_bytes F g (record { counts = counts; marks = ms })) was
  unfolding page_bytes
  laid_page was one two three bytes at fits b long e a m l =
      let marks = marks_bytes F first ms in
      let far = length-marks F first ms in
      let both : length (bytes ++ marks) ≡ 45 + length marks = length-append bytes marks ∙ ap (λ k. k + length marks) long in
      let here : at ≡ g.used + length (bytes ++ marks) = omega (arith, e, far, both) in
      let two-is : two ≡ overwritten g.used (bytes ++ marks) was = m ∙ ap (overwritten (g.used + 45) marks) a ∙ over_more g.used (g.used + 45) bytes marks was (omega (arith, long)) (omega (arith, far)) in
      let all : (bytes ++ marks) ++ (140 ∷ []) ≡ 139 ∷ (counts ++ (digits 4 g.last ++ (marks ++ (140 ∷ [])))) = ap (λ x. (x ++ marks) ++ (140 ∷ [])) b ∙ simp append_assoc in
      l
      ∙ ap (overwritten at (140 ∷ [])) two-is
      ∙ over_more g.used at (bytes ++ marks) (140 ∷ []) was here (omega (arith, e))
      ∙ ap (λ x. overwritten g.used x was) all
