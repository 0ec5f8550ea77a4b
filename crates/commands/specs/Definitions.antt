-- A font definition at a place: a number in w bytes, check sum, size and design size of four bytes each,
-- two length bytes, and a name as long as both together.
use Rattle.std.specs.Prelude.{ℕ, ◌+◌, cond, ◌&&◌, List, length, take, drop, Some, None, Option, nat_le, slice_index}
use Rattle.numbers.specs.Bytes.{is_width, number}

pub record Defined : Type 0 where
  pub number : ℕ
  pub checksum : ℕ
  pub size : ℕ
  pub design : ℕ
  pub name : List ℕ

-- how long the name is, where the number has w bytes
abbrev pub name_length : List ℕ → ℕ → ℕ → ℕ
name_length s at w = slice_index s (at + w + 13) + slice_index s (at + w + 14)

-- the definition that begins at a place; none where it does not end before the bytes do, or for no such width
abbrev pub definition_at : List ℕ → ℕ → ℕ → Option Defined
definition_at s at w =
    cond (is_width w && nat_le (at + w + 15) (length s))
    (cond (nat_le (at + w + 15 + name_length s at w) (length s))
    (Some (record {
      number = number s (at + 1) w;
      checksum = number s (at + w + 1) 4;
      size = number s (at + w + 5) 4;
      design = number s (at + w + 9) 4;
      name = take (name_length s at w) (drop (at + w + 15) s);
    }))
    None)
    None
