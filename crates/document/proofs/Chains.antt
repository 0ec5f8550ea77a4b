-- The chain of pages: one pointer more, and its end. Assumes nothing.
use Rattle.std.proofs.Common.{◌≡◌, ℕ, suc, ◌+◌, ◌-◌, ◌<◌, ◌≤◌, true, false, List, [], ◌∷◌, ◌++◌, length, Some, None, sym, arith, length-append}
use Rattle.std.specs.List.{range_with_len}
use Rattle.std.proofs.lemmas.List.FromFn.{length-range_with_len}
use Rattle.std.proofs.lemmas.Bool.{eq-eqb, ne_eqb}
use Rattle.document.specs.Bytes.{four, no_page}
use Rattle.document.specs.Pages.{leads, broken_from, page_before}

-- a pointer read as a, after i of t pages
module _ (bs : List ℕ) (q t i limit place a : ℕ) (is : a ≡ four bs place) where
  pub chain-on : i < t → true ≡ leads bs q limit a → broken_from bs q (t - (i + 1)) a (a + 41) ≡ broken_from bs q (t - i) limit place
  unfolding broken_from
  chain-on lt h = let e : t - i ≡ suc (t - (i + 1)) = omega arith in rw (e, ← is, ← h)

  pub chain-off : i < t → false ≡ leads bs q limit a → Some place ≡ broken_from bs q (t - i) limit place
  unfolding broken_from
  chain-off lt h = let e : t - i ≡ suc (t - (i + 1)) = omega arith in rw (e, ← is, ← h)

  pub chain-ends : t ≤ i → a ≡ no_page → None ≡ broken_from bs q (t - i) limit place
  unfolding broken_from
  chain-ends le h = let e : t - i ≡ 0 = omega arith in rw (e, ← is, eq-eqb a no_page h)

  pub chain-fails : t ≤ i → (a ≡ no_page → ⊥) → Some place ≡ broken_from bs q (t - i) limit place
  unfolding broken_from
  chain-fails le h = let e : t - i ≡ 0 = omega arith in rw (e, ← is, ne_eqb a no_page h)

-- the page that comes m and these many before another is the one that comes m before a
abbrev pub Back : List ℕ → ℕ → List ℕ → ℕ → Type 0
Back bs last ys a = (m : ℕ) → page_before bs (length ys + m) last ≡ page_before bs m a

module _ (bs : List ℕ) (last : ℕ) where
  pub back_start : Back bs last [] last
  back_start m = let e : 0 + m ≡ m = omega arith in rw e

  pub back_on : (ys : List ℕ) (a x b : ℕ) → Back bs last ys a → b ≡ four bs (a + 41) → Back bs last (ys ++ (x ∷ [])) b
  unfolding page_before
  back_on ys a x b h e m =
      let l : length (ys ++ (x ∷ [])) + m ≡ length ys + suc m = omega (arith, length-append ys (x ∷ [])) in
      rw (l, e) (h (suc m))

  pub back_whole : (k r : ℕ) → Back bs last (range_with_len 0 k) r → r ≡ page_before bs k last
  unfolding page_before
  back_whole k r h =
      let l : length (range_with_len 0 k) + 0 ≡ k = omega (arith, length-range_with_len 0 k) in
      sym (rw l at (h 0))
