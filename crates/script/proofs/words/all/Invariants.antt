use Rattle.std.proofs.Common.{◌≡◌, ℕ, ◌<◌, slice_index_or, Some}
use Rattle.script.proofs.words.all.Given as goal

abbrev pub invariant-loop-i : goal.invariant-loop-i
invariant-loop-i g l = (k : ℕ) (w : _) (d : _) → k < l.i → g.T.Number.spelling (slice_index_or l.words k w).now ≡ Some (slice_index_or l.numbers k d)
