use Rattle.copies.specs.Marks.{faces_of}
use Rattle.writing.proofs.FontBytes.{Counted}
use Rattle.writing.proofs.fonts.fonts_length.Given as goal

abbrev pub invariant-loop-n : goal.invariant-loop-n
invariant-loop-n g l = Counted (faces_of (g.S.Shelf.means l.shelf)) l.pairs l.n l.sum
