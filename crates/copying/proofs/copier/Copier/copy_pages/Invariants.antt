use Rattle.runs.specs.Views.{view_of}
use Rattle.copying.specs.Copied.{Started, sources}
use Rattle.copying.proofs.copier.Copier.copy_pages.Given as goal

-- the pages so far are taken
abbrev pub invariant-loop-k : goal.invariant-loop-k
invariant-loop-k g l = Started (g.S.Shelf.means l.shelf) l.document.bytes.now (sources l.document.bytes.now l.first l.k) (view_of g.S.Shelf.means l.run) l.self.out.items
