use Rattle.std.proofs.Common.{length, vec_items}
use Rattle.fulatzebi.proofs.Sourcing.{SoFar}
use Rattle.fulatzebi.proofs.flattening.all_pages.Given as goal

abbrev pub invariant-loop-k : goal.invariant-loop-k
invariant-loop-k l = SoFar (length l.document) l.k-end l.k (vec_items l.sources)
