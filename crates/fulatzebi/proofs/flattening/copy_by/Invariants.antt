use Rattle.std.proofs.Common.{◌≡◌, length}
use Rattle.runs.specs.Views.{view_of}
use Rattle.fulatzebi.specs.Flat.{flat}
use Rattle.fulatzebi.proofs.Copying.{SoFar}
use Rattle.fulatzebi.proofs.flattening.copy_by.Given as goal

abbrev pub invariant-loop-index : goal.invariant-loop-index
invariant-loop-index g l =
    record {
      copied : SoFar l.order.documents.now l.order.marks l.fn.links l.source-items (flat (g.S.Shelf.means l.fn.shelf) l.order.opening.now l.order.documents.now l.source-items l.order.marks l.fn.links l.fn.out) l.index (view_of g.S.Shelf.means l.run) l.out;
      links : l.links ≡ l.fn.links;
      chain : length l.chain ≡ length l.fn.links;
      list : length l.list ≡ l.order.marks;
    }
