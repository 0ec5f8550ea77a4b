-- Words of digits, which are read one after the other.
use Rattle.std.proofs.Common.{arith, rules, ℕ, List, [], ◌∷◌, ◌≡◌, ◌+◌, ◌*◌, ◌-◌, ◌≤◌, ◌^◌, true, min, cond, Option, Some, None, refl}
use Rattle.std.specs.Char.{is_ascii_digit, digit_value}
use Rattle.std.specs.List.{list_all}
use Rattle.std.specs.Str.Parse.{digits_value_after}
use Rattle.std.proofs.lemmas.Str.{digit_value_digit}

-- the number of digits that follow those of another, or the last that there is
abbrev pub unsigned_after : ℕ → List ℕ → Option ℕ
unsigned_after number ds = cond (list_all is_ascii_digit ds) (Some (min (digits_value_after 10 number ds) (2 ^ 64 - 1))) None

-- where two numbers count as the last, so do those with more digits behind
saturated : (most a b : ℕ) (ds : List ℕ) → min a most ≡ min b most → min (digits_value_after 10 a ds) most ≡ min (digits_value_after 10 b ds) most
saturated most a b [] e = e
saturated most a b (c ∷ cs) e = saturated most (a * 10 + digit_value c) (b * 10 + digit_value c) cs (omega arith)

pub taken : (number letter : ℕ) (letters : List ℕ) → 48 ≤ letter → letter ≤ 57 → unsigned_after number (letter ∷ letters) ≡ unsigned_after (min (min (number * 10) (2 ^ 64 - 1) + (letter - 48)) (2 ^ 64 - 1)) letters
taken number letter letters low high =
    let worth = digit_value_digit letter (low, high) in
    let digit : is_ascii_digit letter ≡ true = search rules in
    let same = saturated (2 ^ 64 - 1) (number * 10 + digit_value letter) (min (min (number * 10) (2 ^ 64 - 1) + (letter - 48)) (2 ^ 64 - 1)) letters (omega (arith, worth)) in
    rw (digit, same) refl
