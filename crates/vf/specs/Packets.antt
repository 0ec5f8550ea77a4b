-- A packet at a place: its length, its code and its width, then its bytes. It begins with 242 where each of the
-- three has four bytes, and otherwise with its length in one byte, the code in one and the width in three.
use Rattle.std.specs.Prelude.{ℕ, ◌+◌, ◌/◌, ◌^◌, Bool, cond, List, length, Some, None, Option, ◌==◌, nat_le, slice_index}
use Rattle.numbers.specs.Bytes.{number}
use Rattle.numbers.specs.FixWords.{begins_fix_word}
use Rattle.vf.specs.declared.packets.Coded.{Coded}

-- the first of the four bytes is 0 or 255
abbrev pub fix_word : ℕ → Bool
fix_word n = begins_fix_word (n / 2 ^ 24)

-- a packet with n bytes from a place on
abbrev pub held : List ℕ → ℕ → ℕ → ℕ → ℕ → Option Coded
held s code start n width =
    cond (nat_le (start + n) (length s))
    (Some (record { code = code; packet = record { start = start; length = n; width = width } }))
    None

abbrev pub short : List ℕ → ℕ → Option Coded
short s at =
    cond (nat_le (at + 5) (length s))
    (held s (slice_index s (at + 1)) (at + 5) (slice_index s at) (number s (at + 2) 3))
    None

abbrev pub long : List ℕ → ℕ → Option Coded
long s at =
    cond (nat_le (at + 13) (length s))
    (cond (nat_le (number s (at + 5) 4) 255)
    (cond (fix_word (number s (at + 9) 4))
    (held s (number s (at + 5) 4) (at + 13) (number s (at + 1) 4) (number s (at + 9) 4))
    None)
    None)
    None

abbrev pub packet_at : List ℕ → ℕ → Option Coded
packet_at s at = cond (slice_index s at == 242) (long s at) (short s at)
