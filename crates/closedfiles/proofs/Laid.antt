-- What stands where in the closed file. Assumes nothing.
use Rattle.std.proofs.Common.{◌≡◌, ℕ, zero, suc, ◌+◌, ◌<◌, ◌≤◌, List, [], ◌∷◌, ◌++◌, length, get_or, take, drop, replicate, sym, refl, ap, ◌∙◌, append_assoc, append-nil, arith, length-append}
use lib.ListN.{length-replicate}
use Rattle.std.specs.List.{AllByRecursion}
use Rattle.std.proofs.lemmas.List.{drop_at, take_at, drop-take, get_or-drop, get_or-replicate}
use Rattle.std.proofs.lemmas.Bool.{eq-eqb}
use Rattle.numbers.specs.Bytes.{digits}
use Rattle.shelf.specs.Meaning.{Facts}
use Rattle.copies.specs.Pages.{Page, Progress, page_bytes}
use Rattle.copies.specs.Files.{Opening, front_bytes, fonts_bytes, post_bytes, padding, end_bytes, closing_bytes, progress, body, closed}
use Rattle.document.specs.Legal.{bare}
use Rattle.readback.specs.Reading.{Counted}
use Rattle.readback.proofs.Stands.{behind, read_at}
use Rattle.readback.proofs.Pages.{length-body}
use Rattle.closedfiles.specs.Closed.{end_of}

-- the front of the pages is the front
pub body-front : (F : ℕ → Facts) (mag : ℕ) (ps : List Page) → (more : List ℕ) × (body F mag ps ≡ front_bytes mag ++ more)
unfolding body
body-front F mag [] = ([], sym (append-nil (front_bytes mag)))
body-front F mag (p ∷ ps) =
    let r = body-front F mag ps in
    let page = page_bytes F (progress F ps) p in
    (r.0 ++ page, ap (λ x. x ++ page) r.1 ∙ append_assoc (front_bytes mag) r.0 page)

pub length_post : (o : Opening) (g : Progress) → length (post_bytes o g) ≡ 29
unfolding post_bytes
length_post o g = refl

length-ending : (q n : ℕ) → length (end_bytes q n) ≡ 6 + padding (n + 6)
unfolding end_bytes
length-ending q n = omega (arith, length-replicate {A = ℕ} (padding (n + 6)) 223)

-- 223s at the end are passed, and a byte that is none is not
bare-past : (s : List ℕ) (k m : ℕ) → ((i : ℕ) → i < k → get_or s (m + i) 0 ≡ 223) → bare s (m + k) ≡ bare s m
unfolding bare
bare-past s zero m h = grind arith
bare-past s (suc k) m h =
    let e : m + suc k ≡ suc (m + k) = omega arith in
    rw (e, eq-eqb (get_or s (m + k) 0) 223 (h k (omega arith))) (bare-past s k m (λ i l. h i (omega arith)))

bare_stop : (s : List ℕ) (k m : ℕ) → m ≡ suc k → (get_or s k 0 ≡ 223 → ⊥) → bare s m ≡ m
unfolding bare
bare_stop s k m e h = grind arith

module _ (F : ℕ → Facts) (o : Opening) (ps : List Page) (counted : AllByRecursion Counted ps) where
  abbrev pub g : Progress
  g = progress F ps

  abbrev pub fonts : List ℕ
  fonts = fonts_bytes F 0 g.pairs

  -- behind the definitions
  abbrev pub ending : List ℕ
  ending = end_bytes g.used (g.used + length (post_bytes o g ++ fonts))

  abbrev pub file : List ℕ
  file = closed F o ps

  -- how many bytes 223 there are
  abbrev pub filled : ℕ
  filled = padding (g.used + length (post_bytes o g ++ fonts) + 6)

  pub file-is : file ≡ body F o.mag ps ++ (post_bytes o g ++ (fonts ++ ending))
  unfolding closed closing_bytes
  file-is = refl

  pub at_post : drop g.used file ≡ post_bytes o g ++ (fonts ++ ending)
  at_post = grind (arith, file-is, drop_at, length-body)

  pub before_post : take g.used file ≡ body F o.mag ps
  before_post = grind (arith, file-is, take_at, length-body)

  pub at-fonts : drop (g.used + 29) file ≡ fonts ++ ending
  at-fonts = grind (arith, behind, at_post, length_post)

  pub at-ending : drop (end_of F g) file ≡ ending
  at-ending = grind (arith, behind, at-fonts)

  pub at-number : drop (end_of F g + 1) file ≡ digits 4 g.used ++ (2 ∷ replicate filled 223)
  unfolding end_bytes
  at-number = behind file (end_of F g) (249 ∷ []) (digits 4 g.used ++ (2 ∷ replicate filled 223)) at-ending 1 (end_of F g + 1) refl refl

  pub at_id : drop (end_of F g + 5) file ≡ 2 ∷ replicate filled 223
  at_id = behind file (end_of F g + 1) (digits 4 g.used) (2 ∷ replicate filled 223) at-number 4 (end_of F g + 5) refl (omega arith)

  pub at_fill : drop (end_of F g + 6) file ≡ replicate filled 223
  at_fill = behind file (end_of F g + 5) (2 ∷ []) (replicate filled 223) at_id 1 (end_of F g + 6) refl (omega arith)

  pub fill-least : 4 ≤ filled
  fill-least = omega arith

  pub length-file : length file ≡ end_of F g + 6 + filled
  length-file = grind (arith, file-is, length-append, length-body, length_post, length-ending)

  pub at_front : drop 0 file ≡ front_bytes o.mag ++ ((body-front F o.mag ps).0 ++ (post_bytes o g ++ (fonts ++ ending)))
  at_front = grind (arith, file-is, body-front, append_assoc)

  -- the definitions are the last bytes before the 249
  pub fonts-last : drop (g.used + 29) (take (end_of F g) file) ≡ fonts
  fonts-last = grind (arith, drop-take, at-fonts, take_at)

  -- without the 223s the file ends behind its 2
  pub bare-is : bare file (length file) ≡ end_of F g + 6
  bare-is =
      let id = read_at file (end_of F g + 5) (2 ∷ []) (replicate filled 223) at_id 0 (end_of F g + 5) (omega arith) (omega arith) in
      ap (bare file) length-file
      ∙ bare-past file filled (end_of F g + 6) (λ i h. sym (ap (λ xs. get_or xs i 0) (sym at_fill) ∙ get_or-drop (end_of F g + 6) file i 0) ∙ get_or-replicate filled i 223 0 h)
      ∙ bare_stop file (end_of F g + 5) (end_of F g + 6) (omega arith) (λ e. omega (arith, e, id))
