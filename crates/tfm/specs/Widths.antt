-- The width of a code at a size: two reads by index, and one scaling.
use Rattle.std.specs.Prelude.{ℕ, ◌+◌, ◌-◌, ◌*◌, cond, ◌&&◌, List, ℤ, Some, None, Option, ◌==◌, nat_le, nat_lt, slice_index}
use Rattle.numbers.specs.Bytes.{number_at}
use Rattle.numbers.specs.FixWords.{scaled}
use Rattle.tfm.specs.Outlines.{Outline}

abbrev pub scaled_word : ℕ → Option ℕ → Option ℤ
scaled_word size (Some word) = scaled size word
scaled_word size None = None

-- index 0 stands for no character
abbrev pub by_index : List ℕ → Outline → ℕ → ℕ → Option ℤ
by_index bytes o size index = cond (index == 0) None (scaled_word size (number_at bytes (o.widths + 4 * index) 4))

abbrev pub width_of : List ℕ → Outline → ℕ → ℕ → Option ℤ
width_of bytes o size code =
    cond (nat_le o.first code && nat_lt code (o.first + o.count))
    (by_index bytes o size (slice_index bytes (o.characters + 4 * (code - o.first))))
    None
