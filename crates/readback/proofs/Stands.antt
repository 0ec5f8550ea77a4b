-- What stands from a place of some bytes on, and the numbers read there. Assumes nothing.
use Rattle.std.proofs.Common.{◌≡◌, ℕ, ◌+◌, ◌^◌, ◌<◌, ◌≤◌, true, List, [], ◌∷◌, ◌++◌, length, get_or, take, drop, replicate, ℤ, Some, sym, refl, ap, ◌∙◌, zero-add, arith, length-append, length-drop, rules}
use lib.ListN.{length-replicate}
use lib.Seq.{paste}
use Rattle.std.proofs.lemmas.List.Prefix.{at_reads}
use Rattle.std.proofs.lemmas.List.{drop_at, drop-drop, take_at, places}
use Rattle.std.proofs.lemmas.Bool.{cond-true}
use Rattle.numbers.specs.Bytes.{is_width, number, readable, number_at, signed_at, digits, signed_fits, complement}
use Rattle.numbers.proofs.Digits.{length_digits, number_same, paste-number, signed-complement}

module _ (s : List ℕ) (at : ℕ) (xs rest : List ℕ) (e : drop at s ≡ xs ++ rest) where
  -- what stands behind, at a place said in any way
  pub behind : (k next : ℕ) → length xs ≡ k → next ≡ at + k → drop next s ≡ rest
  behind k next l n = ap (λ j. drop j s) n ∙ sym (drop-drop k at s) ∙ ap (drop k) e ∙ drop_at xs rest k l

  pub inside : 0 < length xs → at + length xs ≤ length s
  inside some = omega (arith, ap length e, length-drop at s, length-append xs rest)

  pub read_at : (i place : ℕ) → i < length xs → place ≡ at + i → get_or s place 0 ≡ get_or xs i 0
  read_at i place h p = ap (λ j. get_or s j 0) p ∙ at_reads 0 s xs at rest e i h

  pub taken : (k : ℕ) → length xs ≡ k → take k (drop at s) ≡ xs
  taken k l = ap (take k) e ∙ take_at xs rest k l

pub head_at : (s : List ℕ) (at b : ℕ) (rest : List ℕ) → drop at s ≡ b ∷ rest → (at < length s) × (get_or s at 0 ≡ b)
head_at s at b rest e =
    let i = inside s at (b ∷ []) rest e (omega arith) in
    (omega arith, read_at s at (b ∷ []) rest e 0 at (omega arith) (omega arith))

-- the number whose bytes stand there
pub number-at : (s : List ℕ) (at w n : ℕ) (rest : List ℕ) → drop at s ≡ digits w n ++ rest → n < 256 ^ w → number s at w ≡ n
number-at s at w n rest e h =
    let z : List ℕ = replicate w 0 in
    let lz : length z ≡ w = length-replicate w 0 in
    let ld : length (digits w n) ≡ w = length_digits w n in
    number_same s (paste z 0 (digits w n) w) at 0 w (λ i k. read_at s at (digits w n) rest e i (at + i) (omega arith) refl ∙ rw zero-add (search (rules, places)))
    ∙ paste-number z 0 w n (omega arith) h

module _ (s : List ℕ) (at w n : ℕ) (rest : List ℕ) (e : drop at s ≡ digits w n ++ rest) (width : is_width w ≡ true) (some : 0 < w) where
  pub readable-at : readable s at w ≡ true
  readable-at =
      let l : length (digits w n) ≡ w = length_digits w n in
      let i = inside s at (digits w n) rest e (omega arith) in
      grind arith

  pub number_at-is : n < 256 ^ w → number_at s at w ≡ Some n
  number_at-is h = grind (arith, cond-true, readable-at, number-at)

complement-below : (w : ℕ) (z : ℤ) → signed_fits w z ≡ true → complement w z < 256 ^ w
complement-below w z f = grind arith

-- a length in two's complement
pub signed_at-is : (s : List ℕ) (at w : ℕ) (z : ℤ) (rest : List ℕ) → drop at s ≡ digits w (complement w z) ++ rest → is_width w ≡ true → 0 < w → signed_fits w z ≡ true → signed_at s at w ≡ Some z
signed_at-is s at w z rest e width some f = grind (arith, cond-true, readable-at, number-at, complement-below, signed-complement)
