-- Fonts found in a table of places that is sorted by their numbers. Assumes nothing.
use Rattle.std.proofs.Common.{◌≡◌, ℕ, zero, suc, ◌<◌, ◌≤◌, ◌⊎◌, Bool, true, false, cond, ltb, List, [], ◌∷◌, length, Some, None, Option, slice_index_or, sym, refl, ap, ◌∙◌, subst, inl, inr, arith, true≢false}
use Rattle.std.specs.List.{All, AllWithin, Contains}
use Rattle.std.specs.List.Sorted.{IsNonDecreasing, IsNonDecreasingBy, IsPermutation}
use Rattle.std.proofs.lemmas.List.Sorted.{All-permutation, Contains-permutation, IsPermutation-sym}
use Rattle.std.proofs.lemmas.List.Elements.{Contains-get_or}
use Rattle.std.proofs.lemmas.List.{get_or_default}
use Rattle.std.proofs.lemmas.Bool.{cases_lt}
use Rattle.std.proofs.lemmas.Bool.Decides.{nat_tests}
use Rattle.document.specs.Fonts.{entry_at, number_by, has_number, defined_at, defines, defined_in}
use Rattle.document.specs.Tables.{number_or, number_at, key_at, first_among}

-- a definition has the number n
has-number : (n : ℕ) (o : Option ℕ) → has_number n o ≡ true → number_or o ≡ n
has-number n None h = absurd (true≢false (sym h))
has-number n (Some k) h = grind (arith, nat_tests)

number-has : (n : ℕ) (o : Option ℕ) → n < 4294967296 → number_or o ≡ n → has_number n o ≡ true
number-has n None lt h = absurd (omega arith)
number-has n (Some k) lt h = grind (arith, nat_tests)

module _ (bs : List ℕ) (n : ℕ) where
  numbered : (p : ℕ) → defines bs n p ≡ true → number_at bs p ≡ n
  unfolding number_at
  numbered p h = has-number n (entry_at bs p).number h

  defined : (p : ℕ) → n < 4294967296 → number_at bs p ≡ n → defines bs n p ≡ true
  unfolding number_at
  defined p lt h = number-has n (entry_at bs p).number lt h

  -- font n is found at a place of the list, and not before
  abbrev Found : List ℕ → ℕ → Type 0
  Found zs p = (i : ℕ) × (i < length zs) × (slice_index_or zs i 0 ≡ p) × (defines bs n p ≡ true) × ((k : ℕ) → k < i → defines bs n (slice_index_or zs k 0) ≡ false)

  abbrev Missing : List ℕ → Type 0
  Missing zs = (k : ℕ) → k < length zs → defines bs n (slice_index_or zs k 0) ≡ false

  abbrev Sought : List ℕ → Option ℕ → Type 0
  Sought zs None = Missing zs
  Sought zs (Some p) = Found zs p

  found_first : (z : ℕ) (zs : List ℕ) → defines bs n z ≡ true → Found (z ∷ zs) z
  found_first z zs h = (0, omega arith, refl, h, λ k lt. absurd (omega arith))

  missing_first : (z : ℕ) (zs : List ℕ) → defines bs n z ≡ false → Missing zs → Missing (z ∷ zs)
  missing_first z zs h m zero lt = h
  missing_first z zs h m (suc k) lt = m k (omega arith)

  before : (z : ℕ) (zs : List ℕ) (i : ℕ) → defines bs n z ≡ false → ((k : ℕ) → k < i → defines bs n (slice_index_or zs k 0) ≡ false) → (k : ℕ) → k < suc i → defines bs n (slice_index_or (z ∷ zs) k 0) ≡ false
  before z zs i h f zero lt = h
  before z zs i h f (suc k) lt = f k (omega arith)

  found_later : (z : ℕ) (zs : List ℕ) (o : Option ℕ) → defines bs n z ≡ false → Sought zs o → Sought (z ∷ zs) o
  found_later z zs None h s = missing_first z zs h s
  found_later z zs (Some p) h s = (suc s.0, omega (arith, s.1), s.2, s.3, before z zs s.0 h s.4)

  sought_step : (z : ℕ) (zs : List ℕ) (o : Option ℕ) (b : Bool) → defines bs n z ≡ b → Sought zs o → Sought (z ∷ zs) (cond b (Some z) o)
  sought_step z zs o true h s = found_first z zs h
  sought_step z zs o false h s = found_later z zs o h s

  sought : (zs : List ℕ) → Sought zs (first_among bs n zs)
  unfolding first_among
  sought [] = λ k lt. absurd (omega arith)
  sought (z ∷ zs) = sought_step z zs (first_among bs n zs) (defines bs n z) refl (sought zs)

  -- what is missing is nowhere in the list
  nowhere : (zs : List ℕ) → Missing zs → (q : ℕ) → Contains zs q → defines bs n q ≡ false
  nowhere zs m q c =
      subst (λ x. defines bs n x ≡ false) (get_or_default zs c.0 0 q c.1 ∙ c.2) (m c.0 c.1)

  -- in a list sorted by k, what is found has the least k
  module _ (key : ℕ → ℕ) (zs : List ℕ) (up : IsNonDecreasingBy key zs) where
    least_from : (p : ℕ) (f : Found zs p) (j : ℕ) → j < length zs → defines bs n (slice_index_or zs j 0) ≡ true → (j < f.0) ⊎ (f.0 ≤ j) → key p ≤ key (slice_index_or zs j 0)
    least_from p f j lt h (inl k) = absurd (true≢false (sym h ∙ f.4 j k))
    least_from p f j lt h (inr k) = subst (λ x. key x ≤ key (slice_index_or zs j 0)) f.2 (up f.0 j 0 k lt)

    least : (p : ℕ) → Found zs p → (q : ℕ) → Contains zs q → defines bs n q ≡ true → key p ≤ key q
    least p f q c h =
        let d : slice_index_or zs c.0 0 ≡ q = get_or_default zs c.0 0 q c.1 ∙ c.2 in
        subst (λ x. key p ≤ key x) d (least_from p f c.0 c.1 (subst (λ x. defines bs n x ≡ true) (sym d) h) (cases_lt c.0 f.0))

  inside : (zs : List ℕ) (p : ℕ) → Found zs p → Contains zs p
  inside zs p f = subst (Contains zs) f.2 (Contains-get_or zs f.0 0 f.1)

  -- a list that rises and the same sorted by keys have the same first
  module _ (xs ys : List ℕ) (same : IsPermutation xs ys) (up : IsNonDecreasing xs) (sorted : IsNonDecreasingBy (key_at bs) ys) where
    agree : (o u : Option ℕ) → Sought xs o → Sought ys u → o ≡ u
    agree None None s t = refl
    agree None (Some q) s t = absurd (true≢false (sym t.3 ∙ nowhere xs s q (Contains-permutation ys xs q (IsPermutation-sym xs ys same) (inside ys q t))))
    agree (Some p) None s t = absurd (true≢false (sym s.3 ∙ nowhere ys t p (Contains-permutation xs ys p same (inside xs p s))))
    agree (Some p) (Some q) s t =
        let a : p ≤ q = least (λ x. x) xs up p s q (Contains-permutation ys xs q (IsPermutation-sym xs ys same) (inside ys q t)) t.3 in
        let b : key_at bs q ≤ key_at bs p = least (key_at bs) ys sorted q t p (Contains-permutation xs ys p same (inside xs p s)) s.3 in
        let c : number_at bs p ≡ n = numbered p s.3 in
        let d : number_at bs q ≡ n = numbered q t.3 in
        let e : p ≡ q = omega (arith, a, b, c, d) in
        ap Some e

    pub first_sorted : first_among bs n xs ≡ first_among bs n ys
    first_sorted = agree (first_among bs n xs) (first_among bs n ys) (sought xs) (sought ys)

  -- where the numbers are sorted, font n can be only at the first place whose number is not below n
  module _ (zs : List ℕ) (i : ℕ) (few : n < 4294967296) (up : IsNonDecreasingBy (number_at bs) zs)
      (low : AllWithin (λ p. ltb (number_at bs p) n ≡ true) zs 0 i) (high : AllWithin (λ p. ltb (number_at bs p) n ≡ false) zs i (length zs)) where
    not_before-by : (j : ℕ) → j < length zs → defines bs n (slice_index_or zs j 0) ≡ true → (j < i) ⊎ (i ≤ j) → i ≤ j
    not_before-by j lt h (inl k) =
        let a : ltb (number_at bs (slice_index_or zs j 0)) n ≡ true = low j 0 (omega arith) k in
        let b : number_at bs (slice_index_or zs j 0) ≡ n = numbered (slice_index_or zs j 0) h in
        let c : number_at bs (slice_index_or zs j 0) < n = grind (arith, nat_tests) in
        absurd (omega (arith, b, c))
    not_before-by j lt h (inr k) = k

    not_before : (p : ℕ) (f : Found zs p) → i ≤ f.0
    not_before p f = not_before-by f.0 f.1 (subst (λ x. defines bs n x ≡ true) (sym f.2) f.3) (cases_lt f.0 i)

    none_by : (o : Option ℕ) → Sought zs o → length zs ≤ i → None ≡ o
    none_by None s le = refl
    none_by (Some p) s le = let a : i ≤ s.0 = not_before p s in absurd (omega (arith, a, s.1))

    pub none_from : length zs ≤ i → None ≡ first_among bs n zs
    none_from le = none_by (first_among bs n zs) (sought zs) le

    -- its number is n where font n is found behind it
    there : i < length zs → (p : ℕ) → Found zs p → defines bs n (slice_index_or zs i 0) ≡ true
    there lt p f =
        let a : i ≤ f.0 = not_before p f in
        let b : number_at bs (slice_index_or zs i 0) ≤ number_at bs (slice_index_or zs f.0 0) = up i f.0 0 a f.1 in
        let c : number_at bs (slice_index_or zs f.0 0) ≡ n = ap (number_at bs) f.2 ∙ numbered p f.3 in
        let d : ltb (number_at bs (slice_index_or zs i 0)) n ≡ false = high i 0 (omega arith) lt in
        let e : n ≤ number_at bs (slice_index_or zs i 0) = grind (arith, nat_tests) in
        defined (slice_index_or zs i 0) few (omega (arith, b, c, e))

    first-is : i < length zs → (p : ℕ) (f : Found zs p) → (i < f.0) ⊎ (f.0 ≤ i) → p ≡ slice_index_or zs i 0
    first-is lt p f (inl k) = absurd (true≢false (sym (there lt p f) ∙ f.4 i k))
    first-is lt p f (inr k) = let a : i ≤ f.0 = not_before p f in let e : i ≡ f.0 = omega arith in subst (λ x. p ≡ slice_index_or zs x 0) (sym e) (sym f.2)

    point_by : i < length zs → (o : Option ℕ) → Sought zs o → (b : Bool) → defines bs n (slice_index_or zs i 0) ≡ b → cond b (Some (slice_index_or zs i 0)) None ≡ o
    point_by lt None s true h = absurd (true≢false (sym h ∙ s i lt))
    point_by lt None s false h = refl
    point_by lt (Some p) s true h = ap Some (sym (first-is lt p s (cases_lt i s.0)))
    point_by lt (Some p) s false h = absurd (true≢false (sym (there lt p s) ∙ h))

    pub at_point : i < length zs → cond (defines bs n (slice_index_or zs i 0)) (Some (slice_index_or zs i 0)) None ≡ first_among bs n zs
    at_point lt = point_by lt (first_among bs n zs) (sought zs) (defines bs n (slice_index_or zs i 0)) refl

-- sorted by their keys, places that are low are sorted by their numbers
pub by_numbers : (bs ys : List ℕ) → IsNonDecreasingBy (key_at bs) ys → All (λ p. p < 2147483648) ys → IsNonDecreasingBy (number_at bs) ys
by_numbers bs ys up low i j d le lt =
    let a : key_at bs (slice_index_or ys i d) ≤ key_at bs (slice_index_or ys j d) = up i j d le lt in
    let b : slice_index_or ys j d < 2147483648 = low j d lt in
    omega (arith, a, b)

-- the table as it is sorted
module _ (bs xs ys : List ℕ) (same : IsPermutation xs ys) (low : All (λ p. p < 2147483648) xs) (keyed : IsNonDecreasingBy (key_at bs) ys) where
  pub sorted_numbers : IsNonDecreasingBy (number_at bs) ys
  sorted_numbers = by_numbers bs ys keyed (All-permutation (λ p. p < 2147483648) xs ys same low)

kept_by : (bs : List ℕ) (p : ℕ) (b : Bool) → cond b (defined_at bs p) None ≡ defined_in bs (cond b (Some p) None)
kept_by bs p true = refl
kept_by bs p false = refl

-- the definition at a place, if its number is n
pub kept_at : (bs : List ℕ) (n p : ℕ) → cond (has_number n (number_by (defined_at bs p))) (defined_at bs p) None ≡ defined_in bs (cond (defines bs n p) (Some p) None)
unfolding entry_at
kept_at bs n p = kept_by bs p (has_number n (number_by (defined_at bs p)))
