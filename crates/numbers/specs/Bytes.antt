-- Numbers in files: 1 to 4 bytes, high byte first, at a place; what is written there is read again.
use Rattle.std.specs.Prelude.{ℕ, zero, suc, ◌+◌, ◌-◌, ◌*◌, ◌/◌, ◌%◌, ◌^◌, Bool, cond, ◌&&◌, List, [], ◌∷◌, ◌++◌, length, ℤ, pos, negsuc, ◌-ℤ◌, Some, None, Option, nat_le, nat_lt, slice_index}
use Rattle.std.proofs.Math.Seq.{paste}

-- a number takes 1 to 4 bytes
abbrev pub is_width : ℕ → Bool
is_width w = nat_le 1 w && nat_le w 4

-- the unsigned number in the w bytes from place p on
abbrev pub number : List ℕ → ℕ → ℕ → ℕ
number s p zero = 0
number s p (suc w) = number s p w * 256 + slice_index s (p + w)

-- the w bytes from place p on stand in the list
abbrev pub readable : List ℕ → ℕ → ℕ → Bool
readable s p w = is_width w && nat_le (p + w) (length s)

abbrev pub number_at : List ℕ → ℕ → ℕ → Option ℕ
number_at s p w = cond (readable s p w) (Some (number s p w)) None

-- two's complement in w bytes
abbrev pub signed : ℕ → ℕ → ℤ
signed w n = cond (nat_lt (2 * n) (256 ^ w)) (pos n) (pos n -ℤ pos (256 ^ w))

abbrev pub signed_at : List ℕ → ℕ → ℕ → Option ℤ
signed_at s p w = cond (readable s p w) (Some (signed w (number s p w))) None

-- the low w bytes of n, high byte first
abbrev pub digits : ℕ → ℕ → List ℕ
digits zero n = []
digits (suc w) n = digits w (n / 256) ++ (n % 256 ∷ [])

-- n has no more than w bytes
abbrev pub fitting : ℕ → ℕ → Bool
fitting w n = is_width w && nat_lt n (256 ^ w)

-- the list after n is written in w bytes at place p, as it was where that cannot be
abbrev pub written : List ℕ → ℕ → ℕ → ℕ → List ℕ
written s p w n = cond (nat_le (p + w) (length s) && fitting w n) (paste s p (digits w n) w) s

-- the place after the number, none where it cannot be written
abbrev pub written_to : List ℕ → ℕ → ℕ → ℕ → Option ℕ
written_to s p w n = cond (nat_le (p + w) (length s) && fitting w n) (Some (p + w)) None

-- z is in the range of w bytes in two's complement
abbrev pub signed_fits : ℕ → ℤ → Bool
signed_fits w (pos n) = nat_lt (2 * n) (256 ^ w)
signed_fits w (negsuc n) = nat_lt (2 * n) (256 ^ w)

-- the unsigned number whose bytes are z's
abbrev pub complement : ℕ → ℤ → ℕ
complement w (pos n) = n
complement w (negsuc n) = 256 ^ w - suc n

abbrev pub complement_at : ℕ → ℤ → Option ℕ
complement_at w z = cond (is_width w && signed_fits w z) (Some (complement w z)) None

abbrev pub signed_written : List ℕ → ℕ → ℕ → ℤ → List ℕ
signed_written s p w z = cond (is_width w && signed_fits w z) (written s p w (complement w z)) s

abbrev pub signed_written_to : List ℕ → ℕ → ℕ → ℤ → Option ℕ
signed_written_to s p w z = cond (is_width w && signed_fits w z) (written_to s p w (complement w z)) None
