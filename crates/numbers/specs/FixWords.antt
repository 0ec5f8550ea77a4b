-- A fix_word is four bytes that count 2^-20, its first byte 0 or 255; it is scaled by a size.
use Rattle.std.specs.Prelude.{ℕ, zero, suc, ◌+◌, ◌-◌, ◌*◌, ◌/◌, ◌%◌, ◌^◌, Bool, cond, ◌||◌, ℤ, pos, ◌-ℤ◌, Some, None, Option, ◌==◌, nat_lt}
use Rattle.numbers.specs.Lengths.{good_size}

-- the first byte of a fix_word
abbrev pub begins_fix_word : ℕ → Bool
begins_fix_word b = b == 0 || b == 255

-- how often n is halved, rounding down, until it is below 2^23; at most k times
abbrev pub halved : ℕ → ℕ → ℕ
halved zero n = 0
halved (suc k) n = cond (nat_lt n (2 ^ 23)) 0 (suc (halved k (n / 2)))

-- e: a size is below 2^27, so four times are enough
unfoldable pub halvings : ℕ → ℕ
halvings size = halved 4 size

-- z: the size halved so often
abbrev pub unit : ℕ → ℕ
unit size = size / 2 ^ halvings size

-- what the last three bytes b give: b × z ÷ 2^(20 - e), rounded down
abbrev pub share : ℕ → ℕ → ℕ
share size b = b * unit size / 2 ^ (20 - halvings size)

-- what a first byte of 255 takes off: 2^(4 + e) × z
abbrev pub less : ℕ → ℕ
less size = unit size * 2 ^ (4 + halvings size)

-- the fix_word whose four bytes are the unsigned number n, scaled by a size below 2^27
abbrev pub scaled_by : ℕ → ℕ → Option ℤ
scaled_by size n =
    cond (n / 2 ^ 24 == 0)
    (Some (pos (share size (n % 2 ^ 24))))
    (cond (n / 2 ^ 24 == 255) (Some (pos (share size (n % 2 ^ 24)) -ℤ pos (less size))) None)

-- the same for any size; none where it is no size or these bytes are no fix_word
unfoldable pub scaled : ℕ → ℕ → Option ℤ
scaled size n = cond (good_size size) (scaled_by size n) None
