-- How often a size is halved, and how large a scaled fix_word can be. Assumes nothing.
use Rattle.std.proofs.Common.{◌≡◌, ℕ, zero, suc, ◌+◌, ◌-◌, ◌*◌, ◌/◌, ◌%◌, ◌^◌, ◌<◌, ◌≤◌, Bool, true, false, cond, eqb, ltb, ◌⊎◌, ℤ, pos, negsuc, ◌-ℤ◌, ◌≤ℤ◌, Some, None, Option, sym, refl, ap, ◌∙◌, inl, inr, add-suc, pow-suc, one-add, arith}
use native.Mathlib.Nat.{pow-le-pow_right}
use Rattle.std.proofs.lemmas.Bool.{ltb-true, lt-ltb, le-ltb, cond-true, cond-false, and_parts}
use Rattle.std.proofs.lemmas.Nat.{pow-add, shr_split, shr-shr, mul-lt, div_below, mod_below}
use Rattle.std.proofs.lemmas.Int.{ints}
use Rattle.numbers.specs.Lengths.{good_size}
use Rattle.numbers.specs.FixWords.{halved, halvings, unit, share, less, scaled_by, scaled}

step : (k n : ℕ) (b : Bool) → ltb n (2 ^ 23) ≡ b → n / 2 / 2 ^ halved k (n / 2) < 2 ^ 23 → n / 2 ^ cond b 0 (suc (halved k (n / 2))) < 2 ^ 23
step k n true e ih = omega (arith, ltb-true n (2 ^ 23) e)
step k n false e ih = rw (rw one-add at (shr-shr n 1 (halved k (n / 2)))) at ih

-- halving k times is enough below 2^(23 + k)
enough : (k n : ℕ) → n < 2 ^ (23 + k) → n / 2 ^ halved k n < 2 ^ 23
enough zero n h = omega arith
enough (suc k) n h =
    let twice : n < 2 ^ (23 + k) * 2 = rw (add-suc, pow-suc) at h in
    step k n (ltb n (2 ^ 23)) refl (enough k (n / 2) (omega arith))

pub unit-below : (size : ℕ) → size < 2 ^ 27 → unit size < 2 ^ 23
unfolding halvings
unit-below size h = enough 4 size h

-- from 2^(22 + e) to 2^(23 + e) it takes e halvings, below 2^23 none
counted : (e k n : ℕ) → e ≤ k → (e ≡ 0) ⊎ (2 ^ (22 + e) ≤ n) → n < 2 ^ (23 + e) → halved k n ≡ e
counted zero zero n l low h = refl
counted zero (suc k) n l low h = cond-true _ _ _ (lt-ltb n (2 ^ 23) (omega arith))
counted (suc e) zero n l low h = absurd (omega arith)
counted (suc e) (suc k) n l (inl z) h = absurd (omega arith)
counted (suc e) (suc k) n l (inr low) h =
    let twice : n < 2 ^ (23 + e) * 2 = rw (add-suc, pow-suc) at h in
    let base : 2 ^ (22 + e) * 2 ≤ n = rw (add-suc, pow-suc) at low in
    let two : 0 < 2 = omega arith in
    let z : 22 ≤ 22 + e = omega arith in
    let least : 2 ^ 22 ≤ 2 ^ (22 + e) = pow-le-pow_right two z in
    cond-false _ _ _ (le-ltb n (2 ^ 23) (omega arith)) ∙ ap suc (counted e k (n / 2) (omega arith) (inr (omega arith)) (omega arith))

pub halvings_are : (e n : ℕ) → e ≤ 4 → (e ≡ 0) ⊎ (2 ^ (22 + e) ≤ n) → n < 2 ^ (23 + e) → e ≡ halvings n
unfolding halvings
halvings_are e n l low h = sym (counted e 4 n l low h)

pub share-below : (b z e : ℕ) → b < 2 ^ 24 → z < 2 ^ 23 → e ≤ 4 → b * z / 2 ^ (20 - e) < 2 ^ 31
share-below b z e h k l =
    let m : b * z < 2 ^ 24 * 2 ^ 23 = mul-lt b z (2 ^ 24) (2 ^ 23) h k in
    let two : 0 < 2 = omega arith in
    let le : 16 ≤ 20 - e = omega arith in
    let p : 2 ^ 16 ≤ 2 ^ (20 - e) = pow-le-pow_right two le in
    div_below (b * z) (2 ^ (20 - e)) (2 ^ 31) (omega arith) (omega arith)

pub less-below : (size : ℕ) → size < 2 ^ 27 → unit size * 2 ^ (4 + halvings size) < 2 ^ 31
less-below size h = rw (pow-add 2 4 (halvings size)) (omega (arith, shr_split size (halvings size)))

-- within 2^31 either way
abbrev Bounded : ℤ → Type 0
Bounded w = (negsuc 2147483647 ≤ℤ w) × (w ≤ℤ pos 2147483647)

halvings-few : (k n : ℕ) → halved k n ≤ k
halvings-few zero n = omega arith
halvings-few (suc k) n = by (ltb n (2 ^ 23)) (halvings-few k (n / 2))
  where
    by : (b : Bool) → halved k (n / 2) ≤ k → cond b 0 (suc (halved k (n / 2))) ≤ suc k
    by true h = omega arith
    by false h = omega arith

share_bound : (size b : ℕ) → size < 2 ^ 27 → b < 2 ^ 24 → share size b < 2 ^ 31
unfolding halvings
share_bound size b h l = share-below b (unit size) (halvings size) l (unit-below size h) (halvings-few 4 size)

pub scaled_bound : (size n : ℕ) (w : ℤ) → scaled size n ≡ Some w → Bounded w
unfolding scaled
scaled_bound size n w e = by_size (good_size size) refl e
  where
    low : n % 2 ^ 24 < 2 ^ 24
    low = mod_below n (2 ^ 24) (omega arith)

    absent : {X : Type 0} → ◌≡◌ {A = Option ℤ} None (Some w) → X
    absent q = absurd (let z : ◌≡◌ {A = ℕ} 0 1 = cc in omega arith)

    by_bytes : size < 2 ^ 27 → (a b : Bool) → cond a (Some (pos (share size (n % 2 ^ 24)))) (cond b (Some (pos (share size (n % 2 ^ 24)) -ℤ pos (less size))) None) ≡ Some w → Bounded w
    by_bytes h true b q =
        let s = share_bound size (n % 2 ^ 24) h low in
        let p : pos (share size (n % 2 ^ 24)) ≡ w = cc in
        (omega (arith, ints), omega (arith, ints))
    by_bytes h false true q =
        let s = share_bound size (n % 2 ^ 24) h low in
        let l = less-below size h in
        let p : pos (share size (n % 2 ^ 24)) -ℤ pos (less size) ≡ w = cc in
        (omega (arith, ints), omega (arith, ints))
    by_bytes h false false q = absent q

    by_size : (b : Bool) → good_size size ≡ b → cond b (scaled_by size n) None ≡ Some w → Bounded w
    by_size true g q = by_bytes (ltb-true size 134217728 (and_parts (ltb 0 size) (ltb size 134217728) g).1) (eqb (n / 2 ^ 24) 0) (eqb (n / 2 ^ 24) 255) q
    by_size false g q = absent q
