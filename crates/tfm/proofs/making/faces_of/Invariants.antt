use Rattle.std.proofs.Common.{vec_items, vec_capacity}
use Rattle.tfm.proofs.Loads.{SoFar}
use Rattle.tfm.proofs.making.faces_of.Given as goal

abbrev pub invariant-loop-k : goal.invariant-loop-k
invariant-loop-k l = SoFar l.bytes l.entries l.k (vec_items l.faces) (vec_capacity l.faces)
