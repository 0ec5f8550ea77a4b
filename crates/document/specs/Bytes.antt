-- Numbers at a place of a document, high byte first; a byte past the end counts as 0.
use Rattle.std.specs.Prelude.{ℕ, List}
use Rattle.numbers.specs.Bytes.{number}

unfoldable pub four : List ℕ → ℕ → ℕ
four bs p = number bs p 4

unfoldable pub two : List ℕ → ℕ → ℕ
two bs p = number bs p 2

-- a pointer of four bytes that leads nowhere: -1
abbrev pub no_page : ℕ
no_page = 4294967295
