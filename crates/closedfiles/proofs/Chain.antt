-- The pages of the file, from the last one back. Assumes nothing.
use Rattle.std.proofs.Common.{◌≡◌, ℕ, zero, suc, ◌+◌, ◌^◌, ◌<◌, ◌≤◌, true, List, [], ◌∷◌, ◌++◌, length, get_or, drop, Some, None, refl, ap, ◌∙◌, append_assoc, arith}
use Rattle.std.specs.List.{AllByRecursion, slice_get}
use Rattle.std.proofs.lemmas.List.{drop_at}
use Rattle.numbers.specs.Bytes.{digits}
use Rattle.shelf.specs.Meaning.{Meaning, Facts}
use Rattle.copies.specs.Marks.{marks_bytes}
use Rattle.copies.specs.Pages.{Page, Progress, page_pen, page_bytes, with_page}
use Rattle.copies.specs.Files.{front_bytes, progress, body}
use Rattle.document.specs.Bytes.{four, no_page}
use Rattle.document.specs.Pages.{past_comment, leads, broken_from, page_before}
use Rattle.reading.specs.Reading.{counts_at}
use Rattle.readback.specs.Reading.{Counted, GoodPage}
use Rattle.readback.proofs.Stands.{behind, read_at, head_at, taken, number-at}
use Rattle.readback.proofs.Pairs.{Grown, GoodPair, grown_none, grown_more}
use Rattle.readback.proofs.Pages.{length-body, page-used, page-pairs, used-least}
use Rattle.closedfiles.proofs.Laid.{body-front}

-- four bytes that were written
pub four_is : (s : List ℕ) (at n : ℕ) (rest : List ℕ) → drop at s ≡ digits 4 n ++ rest → n < 2 ^ 32 → four s at ≡ n
unfolding four
four_is s at n rest e h = number-at s at 4 n rest e h

module _ (F : ℕ → Facts) where
  -- a pointer fits four bytes
  pub last_fits : (ps : List Page) → (progress F ps).used < 2 ^ 32 → (progress F ps).last < 2 ^ 32
  unfolding progress with_page
  last_fits [] h = omega arith
  last_fits (p ∷ ps) h = omega (arith, h, page-used F (progress F ps) p)

  module _ (mag : ℕ) (s : List ℕ) where
    -- the newest page stands behind the others
    pub page_stands : (p : Page) (ps : List Page) (rest : List ℕ) → AllByRecursion Counted ps → s ≡ body F mag (p ∷ ps) ++ rest
        → (s ≡ body F mag ps ++ (page_bytes F (progress F ps) p ++ rest)) × (drop (progress F ps).used s ≡ page_bytes F (progress F ps) p ++ rest)
    unfolding body
    page_stands p ps rest counted e = grind (arith, append_assoc, drop_at, length-body)

    no_comment : (ps : List Page) (rest : List ℕ) → s ≡ body F mag ps ++ rest → past_comment s ≡ 15
    unfolding front_bytes
    no_comment ps rest e =
        let b = body-front F mag ps in
        let front = e ∙ ap (λ x. x ++ rest) b.1 ∙ append_assoc (front_bytes mag) b.0 rest in
        ap (λ x. 15 + x) (read_at s 0 (front_bytes mag) _ front 14 14 (omega arith) (omega arith))

  -- the fields of a page that stands somewhere
  module _ (s : List ℕ) (at : ℕ) (g : Progress) (p : Page) (rest : List ℕ) (forty : Counted p) (e : drop at s ≡ page_bytes F g p ++ rest) where
    pub page-first : get_or s at 0 ≡ 139
    unfolding page_bytes
    page-first = (head_at s at 139 _ e).1

    from-counts : drop (at + 1) s ≡ p.counts ++ ((digits 4 g.last ++ (marks_bytes F (page_pen g) p.marks ++ (140 ∷ []))) ++ rest)
    unfolding page_bytes
    from-counts = behind s at (139 ∷ []) _ e 1 (at + 1) refl refl ∙ append_assoc p.counts (digits 4 g.last ++ (marks_bytes F (page_pen g) p.marks ++ (140 ∷ []))) rest

    pub page-counts : counts_at s at ≡ p.counts
    page-counts = taken s (at + 1) p.counts _ from-counts 40 forty

    pub page_pointer : g.last < 2 ^ 32 → four s (at + 41) ≡ g.last
    page_pointer h = grind (arith, four_is, behind, from-counts)

  last-is : (p : Page) (ps : List Page) → (progress F (p ∷ ps)).last ≡ (progress F ps).used
  unfolding progress with_page
  last-is p ps = refl

  used-is : (p : Page) (ps : List Page) → (progress F ps).used + 46 ≤ (progress F (p ∷ ps)).used
  unfolding progress
  used-is p ps = page-used F (progress F ps) p

  module _ (mag : ℕ) (s : List ℕ) (q : ℕ) where
    chain-on : (t limit place a : ℕ) → four s place ≡ a → leads s q limit a ≡ true → broken_from s q (suc t) limit place ≡ broken_from s q t a (a + 41)
    unfolding broken_from
    chain-on t limit place a e h = rw (e, h)

    chain-ends : (limit place : ℕ) → four s place ≡ no_page → broken_from s q 0 limit place ≡ None
    unfolding broken_from
    chain-ends limit place e = rw e

    last_none : (progress F []).last ≡ no_page
    unfolding progress
    last_none = refl

    -- no pointer fails
    pub chain_whole : (ps : List Page) (rest : List ℕ) (limit place : ℕ) → AllByRecursion Counted ps → s ≡ body F mag ps ++ rest → (progress F ps).used ≤ q → (progress F ps).used ≤ limit → (progress F ps).used < 2 ^ 32 → four s place ≡ (progress F ps).last → broken_from s q (length ps) limit place ≡ None
    chain_whole [] rest limit place counted e h l small at = chain-ends limit place (at ∙ last_none)
    chain_whole (p ∷ ps) rest limit place counted e h l small at =
        let a = (progress F ps).used in
        let next = page_stands mag s p ps rest counted.1 e in
        let more = used-is p ps in
        let least = used-least F ps in
        let comment = no_comment mag s ps (page_bytes F (progress F ps) p ++ rest) next.0 in
        let ok : leads s q limit a ≡ true =
        let first = page-first s a (progress F ps) p rest counted.0 next.1 in grind arith in
        chain-on (length ps) limit place a (at ∙ last-is p ps) ok
        ∙ chain_whole ps (page_bytes F (progress F ps) p ++ rest) a (a + 41) counted.1 next.0 (omega arith) (omega arith) (omega arith)
        (page_pointer s a (progress F ps) p rest counted.0 next.1 (last_fits ps (omega arith)))

  module _ (mag : ℕ) (s : List ℕ) where
    back_none : (a : ℕ) → page_before s 0 a ≡ a
    unfolding page_before
    back_none a = refl

    back_one : (k a b : ℕ) → four s (a + 41) ≡ b → page_before s (suc k) a ≡ page_before s k b
    unfolding page_before
    back_one k a b e = rw e

    -- the page that has j newer ones
    pub page-back : (ps : List Page) (rest : List ℕ) (j : ℕ) → AllByRecursion Counted ps → s ≡ body F mag ps ++ rest → j < length ps → (progress F ps).used < 2 ^ 32 → page_before s j (progress F ps).last ≡ (progress F (drop (suc j) ps)).used
    page-back [] rest j counted e h small = absurd (omega arith)
    page-back (p ∷ ps) rest zero counted e h small = grind (arith, last-is, back_none)
    page-back (p ∷ ps) rest (suc j) counted e h small =
        let a = (progress F ps).used in
        let next = page_stands mag s p ps rest counted.1 e in
        let more = used-is p ps in
        ap (page_before s (suc j)) (last-is p ps)
        ∙ back_one j a (progress F ps).last (page_pointer s a (progress F ps) p rest counted.0 next.1 (last_fits ps (omega arith)))
        ∙ page-back ps (page_bytes F (progress F ps) p ++ rest) j counted.1 next.0 (omega arith) (omega arith)

    pub page-at : (ps : List Page) (rest : List ℕ) (j : ℕ) (p : Page) → AllByRecursion Counted ps → s ≡ body F mag ps ++ rest → slice_get ps j ≡ Some p → (more : List ℕ) × (drop (progress F (drop (suc j) ps)).used s ≡ page_bytes F (progress F (drop (suc j) ps)) p ++ more)
    page-at [] rest j p counted e has = cc
    page-at (x ∷ ps) rest zero p counted e has =
        let same : x ≡ p = cc in
        (rest, (page_stands mag s x ps rest counted.1 e).1 ∙ ap (λ y. page_bytes F (progress F ps) y ++ rest) same)
    page-at (x ∷ ps) rest (suc j) p counted e has = page-at ps (page_bytes F (progress F ps) x ++ rest) j p counted.1 (page_stands mag s x ps rest counted.1 e).0 has

  -- a page's pairs are among those of the whole
  pub older_pairs : (m : Meaning) (ps : List Page) (j : ℕ) (p : Page) → AllByRecursion (GoodPage m) ps → slice_get ps j ≡ Some p → Grown (GoodPair m) (with_page F (progress F (drop (suc j) ps)) p).pairs (progress F ps).pairs
  unfolding progress
  older_pairs m [] j p good has = cc
  older_pairs m (x ∷ ps) zero p good has = grind (arith, grown_none)
  older_pairs m (x ∷ ps) (suc j) p good has =
      grown_more (GoodPair m) (with_page F (progress F (drop (suc j) ps)) p).pairs (progress F ps).pairs (with_page F (progress F ps) x).pairs
      (older_pairs m ps j p good.1 has) (page-pairs F m (progress F ps) x good.0)
