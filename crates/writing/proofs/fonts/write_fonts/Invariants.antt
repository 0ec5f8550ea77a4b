use Rattle.copies.specs.Marks.{faces_of}
use Rattle.writing.proofs.FontBytes.{Laid}
use Rattle.writing.proofs.fonts.write_fonts.Given as goal

abbrev pub invariant-loop-n : goal.invariant-loop-n
invariant-loop-n g l = Laid (faces_of (g.S.Shelf.means l.shelf)) l.pairs l.fn.at l.n l.at l.fn.out l.out
