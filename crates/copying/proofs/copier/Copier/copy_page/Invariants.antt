use Rattle.std.proofs.Common.{◌+◌, ◌-◌, List, length}
use Rattle.copies.specs.Files.{Opening}
use Rattle.ledgers.specs.Sources.{Source}
use Rattle.runs.specs.Views.{view_of}
use Rattle.shelf.specs.Meaning.{Meaning}
use Rattle.copying.specs.Copied.{Course}
use Rattle.copying.proofs.copier.Copier.copy_page.Given as goal

-- no page is taken until the copy is accepted
abbrev pub invariant-loop-self : goal.invariant-loop-self
invariant-loop-self g l =
    (m : Meaning) (o : Opening) (es : List Source) → Course m o es (view_of g.S.Shelf.means l.fn.run) l.fn.self.out.items → Course m o es (view_of g.S.Shelf.means l.run) l.self.out.items

-- each try has more room
abbrev pub decreases-loop-self : goal.decreases-loop-self
decreases-loop-self g l = 16777216 - length l.self.lists.marks.items + (16777216 - length l.self.out.items)
