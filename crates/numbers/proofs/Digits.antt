-- The bytes of a number, and the number in those bytes: the round trip, over the width. Assumes nothing.
use Rattle.std.proofs.Common.{◌≡◌, ℕ, zero, suc, ◌+◌, ◌-◌, ◌*◌, ◌/◌, ◌%◌, ◌^◌, ◌<◌, ◌≤◌, true, List, [], ◌∷◌, ◌++◌, length, get_or, drop, ℤ, pos, negsuc, sym, refl, ap, ◌∙◌, mod-eq_of_lt, mul_assoc, pow-suc, zero-add, add-one, arith, length-append, rules}
use native.Mathlib.Nat.{pow-le-pow_right}
use lib.Seq.{paste}
use Rattle.std.proofs.lemmas.List.{get_or_append_left, get_or_push, places}
use Rattle.std.proofs.lemmas.Bool.{ltb-true, le-ltb, cond-true, cond-false}
use Rattle.std.proofs.lemmas.Int.{ints}
use Rattle.std.proofs.lemmas.Nat.{div-add-mod', mod_below, mod-mul-add}
use Rattle.numbers.specs.Bytes.{digits, number, signed, signed_fits, complement}

pow_above : (i : ℕ) → 0 < 256 ^ i
pow_above i =
    let base : 0 < 256 = omega arith in
    let z : 0 ≤ i = omega arith in
    let top : 256 ^ 0 ≤ 256 ^ i = pow-le-pow_right base z in
    omega arith

-- one byte more: the number fits, and stays below the power
pub pushed : (n b i : ℕ) → n < 256 ^ i → b < 256 → i < 4 → (n * 256 + b < 2 ^ 32) × (n * 256 + b < 256 ^ (i + 1))
pushed n b i h k l =
    let base : 0 < 256 = omega arith in
    let z : i ≤ 3 = omega arith in
    let top : 256 ^ i ≤ 256 ^ 3 = pow-le-pow_right base z in
    let up : 256 ^ (i + 1) ≡ 256 ^ i * 256 = rw add-one (pow-suc 256 i) in
    (omega arith, omega arith)

pub number-push : (s : List ℕ) (p i n b : ℕ) → n ≡ number s p i → b ≡ get_or s (p + i) 0 → n * 256 + b ≡ number s p (i + 1)
number-push s p i n b e f = rw add-one (cc)

pub length_digits : (w n : ℕ) → length (digits w n) ≡ w
length_digits zero n = refl
length_digits (suc w) n = simp (length-append, length_digits w (n / 256)) (omega arith)

-- as `to_be_bytes` has them
pub low_bytes : (w n : ℕ) → w ≤ 4 → drop (4 - w) (n / 16777216 % 256 ∷ n / 65536 % 256 ∷ n / 256 % 256 ∷ n % 256 ∷ []) ≡ digits w n
low_bytes zero n h = refl
low_bytes (suc zero) n h = refl
low_bytes (suc (suc zero)) n h = refl
low_bytes (suc (suc (suc zero))) n h = let a : n / 65536 ≡ n / 256 / 256 = omega arith in rw a
low_bytes (suc (suc (suc (suc zero)))) n h =
    let a : n / 65536 ≡ n / 256 / 256 = omega arith in
    let b : n / 16777216 ≡ n / 256 / 256 / 256 = omega arith in
    rw (a, b)
low_bytes (suc (suc (suc (suc (suc w))))) n h = absurd (omega arith)

-- the number depends on its own bytes alone
pub number_same : (s t : List ℕ) (p q w : ℕ) → ((i : ℕ) → i < w → get_or s (p + i) 0 ≡ get_or t (q + i) 0) → number s p w ≡ number t q w
number_same s t p q zero h = refl
number_same s t p q (suc w) h =
    let low : number s p w ≡ number t q w = number_same s t p q w (λ i k. h i (omega arith)) in
    let last : get_or s (p + w) 0 ≡ get_or t (q + w) 0 = h w (omega arith) in
    cc

-- a remainder in two steps
split : (n m : ℕ) → 0 < m → (n / 256 % m) * 256 + n % 256 ≡ n % (m * 256)
split n m h =
    let q = n / 256 in
    let a : (q / m) * m + q % m ≡ q = div-add-mod' q m in
    let low : q % m < m = mod_below q m h in
    let up : (q / m) * (m * 256) ≡ (q / m) * m * 256 = sym (mul_assoc (q / m) m 256) in
    let whole : (q / m) * (m * 256) + ((q % m) * 256 + n % 256) ≡ n = omega arith in
    sym (mod-mul-add (q / m) (m * 256) ((q % m) * 256 + n % 256) (omega arith)) ∙ ap (λ k. k % (m * 256)) whole

-- the number in the low bytes of n
digits_number : (w n : ℕ) → number (digits w n) 0 w ≡ n % 256 ^ w
digits_number zero n = omega arith
digits_number (suc w) n =
    let front = digits w (n / 256) in
    let len : length front ≡ w = length_digits w (n / 256) in
    let high : number (front ++ (n % 256 ∷ [])) 0 w ≡ n / 256 % 256 ^ w =
    number_same (front ++ (n % 256 ∷ [])) front 0 0 w (λ i k. get_or_append_left front (n % 256 ∷ []) 0 (0 + i) (omega arith)) ∙ digits_number w (n / 256) in
    let last : get_or (front ++ (n % 256 ∷ [])) (0 + w) 0 ≡ n % 256 = get_or_push front (n % 256) 0 (0 + w) (omega arith) in
    let two : 0 < 256 ^ w = pow_above w in
    rw (high, last, pow-suc) (split n (256 ^ w) two)

-- what is written is read again
pub paste-number : (s : List ℕ) (p w n : ℕ) → p + w ≤ length s → n < 256 ^ w → number (paste s p (digits w n) w) p w ≡ n
paste-number s p w n h f =
    let len : length (digits w n) ≡ w = length_digits w n in
    number_same (paste s p (digits w n) w) (digits w n) p 0 w (λ i k. rw zero-add (search (rules, places))) ∙ digits_number w n ∙ mod-eq_of_lt f

pub length-paste-digits : (s : List ℕ) (p w n : ℕ) → p + w ≤ length s → length (paste s p (digits w n) w) ≡ length s
length-paste-digits s p w n h = let len : length (digits w n) ≡ w = length_digits w n in search (rules, places)

-- two's complement there and back
pub signed-complement : (w : ℕ) (z : ℤ) → 0 < w → signed_fits w z ≡ true → signed w (complement w z) ≡ z
signed-complement zero z p f = absurd (omega arith)
signed-complement (suc w) (pos n) p f = cond-true _ _ _ f
signed-complement (suc w) (negsuc n) p f =
    let even : 256 ^ suc w ≡ 256 ^ w * 256 = pow-suc 256 w in
    let low : 2 * n < 256 ^ suc w = ltb-true (2 * n) (256 ^ suc w) f in
    let high : 256 ^ suc w ≤ 2 * (256 ^ suc w - suc n) = omega arith in
    cond-false _ _ _ (le-ltb (2 * (256 ^ suc w - suc n)) (256 ^ suc w) high) ∙ omega (arith, ints)
