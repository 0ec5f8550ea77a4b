-- The numbers that words spell.
use Rattle.std.specs.Prelude.{ℕ, ◌+◌, ◌-◌, ◌*◌, ◌^◌, min, Bool, cond, ◌&&◌, ◌==◌, nat_lt, nat_le, ℤ, pos, neg_ℤ, List, [], ◌∷◌, length, drop, Option, None, Some}
use Rattle.std.specs.Option.{option_and_then, option_map}
use Rattle.std.specs.Char.{is_ascii_digit}
use Rattle.std.specs.List.{list_all}
use Rattle.std.specs.Str.Parse.{digits_value, starts_with_minus}

-- one decimal digit or more, and nothing else
abbrev pub spells_number : List ℕ → Bool
spells_number bs = nat_lt 0 (length bs) && list_all is_ascii_digit bs

-- the number of a word without a sign, or the last that there is
abbrev pub unsigned : List ℕ → Option ℕ
unsigned bs = cond (spells_number bs) (Some (min (digits_value 10 bs) (2 ^ 64 - 1))) None

-- the number of a word that may have a minus sign, or the last that there is on its side
abbrev pub signed : List ℕ → Option ℤ
signed bs = cond (starts_with_minus bs) (option_map (λ n. neg_ℤ (pos (min n (2 ^ 63)))) (unsigned (drop 1 bs))) (option_map (λ n. pos (min n (2 ^ 63 - 1))) (unsigned bs))

-- the value of a hexadecimal digit, whose letters are lowercase
abbrev pub hexadecimal_digit : ℕ → Option ℕ
hexadecimal_digit letter =
    cond (nat_le 48 letter && nat_le letter 57) (Some (letter - 48)) (cond (nat_le 97 letter && nat_le letter 102) (Some (letter - 87)) None)

-- the number that digits write when they follow those of another
abbrev pub hexadecimal_after : ℕ → List ℕ → Option ℕ
hexadecimal_after number [] = Some number
hexadecimal_after number (letter ∷ letters) = option_and_then (λ digit. hexadecimal_after (number * 16 + digit) letters) (hexadecimal_digit letter)

-- the byte of two digits
abbrev pub spelled_byte : List ℕ → Option ℕ
spelled_byte pair = cond (length pair == 2) (hexadecimal_after 0 pair) None

-- the number of eight digits
abbrev pub spelled_fix_word : List ℕ → Option ℕ
spelled_fix_word word = cond (length word == 8) (hexadecimal_after 0 word) None
