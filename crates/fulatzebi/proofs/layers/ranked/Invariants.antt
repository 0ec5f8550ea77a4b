use Rattle.std.proofs.Common.{◌≡◌}
use Rattle.rank.specs.Held.{files_of}
use Rattle.fulatzebi.proofs.Fills.{SoFar}
use Rattle.fulatzebi.proofs.layers.ranked.Given as goal

abbrev pub invariant-loop-index : goal.invariant-loop-index
invariant-loop-index g l =
    record {
      filled : SoFar (g.S.Shelf.means l.fn.below) l.rank l.bundle.bytes.now l.font-items l.index (files_of l.made);
      below : l.made.below ≡ l.fn.below;
    }
