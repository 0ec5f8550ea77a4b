-- Bytes written over a part of an output.
use Rattle.std.specs.Prelude.{ℕ, ◌+◌, List, ◌++◌, length, take, drop}

-- the output with these bytes from a place on; all else as it was
abbrev pub overwritten : ℕ → List ℕ → List ℕ → List ℕ
overwritten at bs out = take at out ++ (bs ++ drop (at + length bs) out)
