-- How long the closing is, and that its parts are written one after another. Assumes nothing.
use Rattle.std.proofs.Common.{◌≡◌, ℕ, ◌+◌, ◌≤◌, List, [], ◌∷◌, ◌++◌, length, take, replicate, Ok, sym, refl, ap, ap₂, ◌∙◌, arith, append_assoc, length-append}
use Rattle.std.proofs.lemmas.Bool.{le-leb, cond-true}
use lib.ListN.{length-replicate}
use Rattle.std.proofs.lemmas.List.{take-replicate}
use Rattle.shelf.specs.Meaning.{Facts}
use Rattle.copies.specs.Files.{Opening, fonts_bytes, post_bytes, padding, end_bytes, closing_bytes, closed_length}
use Rattle.copies.specs.Pages.{Progress}
use Rattle.copies.specs.Writing.{overwritten}
use Rattle.writing.specs.Closing.{closed_over}
use Rattle.writing.specs.Standings.{room}
use Rattle.writing.proofs.Overwrites.{over_more}

pub length_post : (o : Opening) (g : Progress) → length (post_bytes o g) ≡ 29
unfolding post_bytes
length_post o g = refl

pub length-end : (q n : ℕ) → length (end_bytes q n) ≡ 6 + padding (n + 6)
unfolding end_bytes
length-end q n = omega (arith, length-replicate {A = ℕ} (padding (n + 6)) 223)

-- 7 bytes 223 are enough
pub filling : (k : ℕ) → k ≤ 7 → take {A = ℕ} k (223 ∷ 223 ∷ 223 ∷ 223 ∷ 223 ∷ 223 ∷ 223 ∷ []) ≡ replicate k 223
filling k h = take-replicate k 7 223 h

module _ (F : ℕ → Facts) (o : Opening) (g : Progress) where
  abbrev pub fonts : List ℕ
  fonts = fonts_bytes F 0 g.pairs

  -- where the 249 stands
  pub end-place : g.used + length (post_bytes o g ++ fonts) ≡ g.used + 29 + length fonts
  end-place = omega (arith, length-append (post_bytes o g) fonts, length_post o g)

  closed_length-is : g.used + 29 + length fonts + 6 + padding (g.used + 29 + length fonts + 6) ≡ closed_length F o g
  unfolding closing_bytes
  closed_length-is =
      let n = g.used + length (post_bytes o g ++ fonts) in
      let p : padding (n + 6) ≡ padding (g.used + 29 + length fonts + 6) = ap (λ k. padding (k + 6)) end-place in
      omega (arith, length-append (post_bytes o g) (fonts ++ end_bytes g.used n), length-append fonts (end_bytes g.used n), length_post o g, length-end g.used n, p)

  pub closed_from : (fl fill : ℕ) → fl ≡ length fonts → fill ≡ padding (g.used + 29 + fl + 6) → g.used + 29 + fl + 6 + fill ≡ closed_length F o g
  closed_from fl fill e f = rw (f, e) closed_length-is

  abbrev post : List ℕ
  post = post_bytes o g

  pub end_room : (end : ℕ) (bytes : List ℕ) → end ≡ g.used + 29 + length fonts → bytes ≡ end_bytes g.used end → (out : List ℕ) → closed_length F o g ≤ length out → end + length bytes ≤ length out
  end_room end bytes e b out fits =
      let p : padding (end + 6) ≡ padding (g.used + 29 + length fonts + 6) = ap (λ k. padding (k + 6)) e in
      omega (arith, fits, closed_length-is, ap length b, length-end g.used end, e, p)

  -- the postamble, the definitions and the ending, one after another
  pub laid : (was one two three first last : List ℕ) (end : ℕ) → closed_length F o g ≤ length was → first ≡ post → one ≡ overwritten g.used first was → two ≡ overwritten (g.used + 29) fonts one → end ≡ g.used + 29 + length fonts → last ≡ end_bytes g.used end → three ≡ overwritten end last two → three ≡ overwritten g.used (closing_bytes F o g) was
  unfolding closing_bytes
  laid was one two three first last end fits f a b e l d =
      let p : length post ≡ 29 = length_post o g in
      let long : length (post ++ fonts) ≡ 29 + length fonts = length-append post fonts ∙ ap (λ k. k + length fonts) p in
      let whole : closed_length F o g ≤ length was = fits in
      let room : end + length last ≤ length was = end_room end last e l was fits in
      let one-is : one ≡ overwritten g.used post was = a ∙ ap (λ x. overwritten g.used x was) f in
      let two-is : two ≡ overwritten g.used (post ++ fonts) was = b ∙ ap (overwritten (g.used + 29) fonts) one-is ∙ over_more g.used (g.used + 29) post fonts was (omega (arith, p)) (omega arith) in
      let here : end ≡ g.used + length (post ++ fonts) = omega (arith, e, long) in
      d
      ∙ ap (overwritten end last) two-is
      ∙ over_more g.used end (post ++ fonts) last was here room
      ∙ ap (λ x. overwritten g.used ((post ++ fonts) ++ x) was) (l ∙ ap (end_bytes g.used) here)
      ∙ ap (λ x. overwritten g.used x was) (append_assoc post fonts (end_bytes g.used (g.used + length (post ++ fonts))))

  pub closes : (was three : List ℕ) (n : ℕ) → closed_length F o g ≤ room was → n ≡ closed_length F o g → three ≡ overwritten g.used (closing_bytes F o g) was → (Ok n, three) ≡ closed_over F o g was
  closes was three n fits e w =
      ap₂ (λ k x. (Ok k, x)) e w ∙ sym (cond-true _ _ _ (le-leb (closed_length F o g) (room was) fits))
