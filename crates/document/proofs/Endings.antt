-- The length without the 223s at the end, by the last byte that is none. Assumes nothing.
use Rattle.std.proofs.Common.{◌≡◌, ◌≢◌, ℕ, zero, suc, ◌+◌, ◌<◌, ◌⊎◌, inl, inr, List, get_or, Some, None, Option, IfSome, IfNone, sym, refl, arith}
use Rattle.std.proofs.lemmas.Bool.{eq-eqb, ne_eqb, cases_eq}
use Rattle.std.specs.Option.{option_map_or}
use Rattle.document.specs.Legal.{bare}

pub all_fill : (bs : List ℕ) (n : ℕ) → ((k : ℕ) → k < n → get_or bs k 0 ≡ 223) → 0 ≡ bare bs n
unfolding bare
all_fill bs zero h = refl
all_fill bs (suc n) h = rw (eq-eqb (get_or bs n 0) 223 (h n (omega arith))) (all_fill bs n (λ k lt. h k (omega arith)))

fill_behind : (bs : List ℕ) (n i : ℕ) → (n ≡ i) ⊎ (n ≡ i → ⊥) → i < suc n → get_or bs i 0 ≢ 223 → ((k : ℕ) → i < k → k < suc n → get_or bs k 0 ≡ 223) → i + 1 ≡ bare bs (suc n)
unfolding bare
fill_behind bs n i (inl e) lt other h = rw (e, ne_eqb (get_or bs i 0) 223 other) (omega arith)
fill_behind bs zero i (inr d) lt other h = absurd (d (omega arith))
fill_behind bs (suc n) i (inr d) lt other h =
    rw (eq-eqb (get_or bs (suc n) 0) 223 (h (suc n) (omega arith) (omega arith)))
    (fill_behind bs n i (cases_eq n i) (omega arith) other (λ k a b. h k a (omega arith)))

pub last_stands : (bs : List ℕ) (n i : ℕ) → i < n → get_or bs i 0 ≢ 223 → ((k : ℕ) → i < k → k < n → get_or bs k 0 ≡ 223) → i + 1 ≡ bare bs n
last_stands bs zero i lt other h = absurd (omega arith)
last_stands bs (suc n) i lt other h = fill_behind bs n i (cases_eq n i) lt other h

pub bare_is : (bs : List ℕ) (n : ℕ) (o : Option ℕ) → IfNone o ((k : ℕ) → k < n → get_or bs k 0 ≡ 223) → IfSome o (λ i. (i < n) × (get_or bs i 0 ≢ 223))
    → ((k : ℕ) → IfSome o (λ i. i < k → k < n → get_or bs k 0 ≡ 223)) → bare bs n ≡ option_map_or (λ i. i + 1) o 0
bare_is bs n None none some behind = sym (all_fill bs n none)
bare_is bs n (Some i) none some behind = sym (last_stands bs n i some.0 some.1 behind)
