use Rattle.copies.specs.Marks.{faces_of}
use Rattle.pairs.specs.Tables.{pairs_of}
use Rattle.writing.specs.Pens.{pen_of}
use Rattle.writing.proofs.Written.{Written}
use Rattle.writing.proofs.passing.write_marks.Given as goal

abbrev pub invariant-loop-mark : goal.invariant-loop-mark
invariant-loop-mark g l = Written (faces_of (g.S.Shelf.means l.shelf)) (pen_of l.fn.pen (pairs_of l.fn.table)) l.marks l.mark-index (pen_of l.pen (pairs_of l.table)) l.fn.out l.out
