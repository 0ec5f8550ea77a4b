use Rattle.std.specs.Prelude.{map}
use Rattle.copying.proofs.Pages.{SoFar}
use Rattle.copying.proofs.checks.marks_of_pages.Given as goal

abbrev pub invariant-loop-k : goal.invariant-loop-k
invariant-loop-k g l = SoFar (g.S.Shelf.means l.shelf) l.bytes l.stated l.first l.k (map (λ marks. marks.items) l.all.items)
