-- The first font that bears a name. Assumes nothing.
use Rattle.std.specs.Prelude.{◌≡◌, ℕ, ◌+◌, ◌<◌, Bool, true, false, List, [], ◌∷◌, ◌++◌, length, get_or, Some, None, Decides, ◌≢◌, slice_index_or, refl}
use Rattle.std.proofs.Common.{sym, ◌∙◌, ⊎_elim, arith, length-append, rules}
use Rattle.std.specs.Str.{bytes_eq}
use Rattle.std.proofs.lemmas.Slice.Eq.{bytes_eq-Decides}
use Rattle.std.proofs.lemmas.List.{get_or_append_left, get_or_push}
use Rattle.std.proofs.lemmas.Bool.{cases_Bool, cases_eq, cases_order, both_ways}
use Rattle.numbers.proofs.Seek.{at_first, match_within, match_passes, none-at}
use Rattle.shelf.specs.Names.{found_in, Distinct, Apart}

pub same : (n : List ℕ) → bytes_eq n n ≡ true
same n = (bytes_eq-Decides n n).1 refl

pub other : (a b : List ℕ) → (a ≢ b) → bytes_eq a b ≡ false
other a b no-path = ⊎_elim (λ e. absurd (no-path ((bytes_eq-Decides a b).0 e))) (λ e. e) (cases_Bool (bytes_eq a b))

-- a test of two names, as `==` answers it
pub tested : (a b : List ℕ) (r : Bool) → Decides r (a ≡ b) → r ≡ bytes_eq a b
tested a b r d = search (rules, bytes_eq-Decides)

pub found_within : (names : List (List ℕ)) (name : List ℕ) (k : ℕ) → found_in names name ≡ Some k → k < length names
unfolding found_in
found_within names name k e = match_within (λ n. bytes_eq n name) names k e

pub found_bears : (names : List (List ℕ)) (name : List ℕ) (k : ℕ) → found_in names name ≡ Some k → slice_index_or names k [] ≡ name
unfolding found_in
found_bears names name k e = (bytes_eq-Decides (slice_index_or names k []) name).0 (match_passes (λ n. bytes_eq n name) names [] k e)

-- where no name stands twice, each font is the first of its name
pub found_distinct : (names : List (List ℕ)) (k : ℕ) → Distinct names → k < length names → found_in names (slice_index_or names k []) ≡ Some k
unfolding found_in
found_distinct names k distinct h =
    at_first (λ n. bytes_eq n (slice_index_or names k [])) names [] k h (same (slice_index_or names k []))
    (λ i l. other (slice_index_or names i []) (slice_index_or names k []) (λ e. (let q : i ≡ k = distinct i k (omega arith) h e in let z : ⊥ = omega arith in z)))

pub apart_distinct : (names : List (List ℕ)) → Apart names → Distinct names
apart_distinct names apart i j hi hj e = ⊎_elim (λ p. p) (⊎_elim (λ l. absurd (apart i j (l, hj) e)) (λ l. absurd (apart j i (l, hi) (sym e)))) (cases_order i j)

-- a name that no font bears goes with theirs
pub apart_push : (names : List (List ℕ)) (name : List ℕ) → Apart names → found_in names name ≡ None → Apart (names ++ name ∷ [])
unfolding found_in
apart_push names name apart e i j (l, h) q = ⊎_elim last before (cases_eq j (length names))
  where
    long : length (names ++ name ∷ []) ≡ length names + 1
    long = length-append names (name ∷ [])

    left : (k : ℕ) → k < length names → slice_index_or (names ++ name ∷ []) k [] ≡ slice_index_or names k []
    left k m = get_or_append_left names (name ∷ []) [] k m

    last : j ≡ length names → ⊥
    last p =
        let m : i < length names = omega arith in
        let bears : get_or names i [] ≡ name = sym (left i m) ∙ q ∙ get_or_push names name [] j (sym p) in
        both_ways (bytes_eq (slice_index_or names i []) name) (none-at (λ n. bytes_eq n name) names [] i m e) ((bytes_eq-Decides (slice_index_or names i []) name).1 bears)

    before : (j ≢ length names) → ⊥
    before p =
        let m : j < length names = omega (arith, long, p) in
        let n : i < length names = omega arith in
        apart i j (l, m) (sym (left i n) ∙ q ∙ left j m)
