-- The bytes that a piece holds so far.
use Rattle.std.specs.Prelude.{ℕ, List}
use Rattle.writing.specs.declared.pieces.Piece.{Piece}

abbrev pub made : Piece → List ℕ
made p = p.bytes.items
