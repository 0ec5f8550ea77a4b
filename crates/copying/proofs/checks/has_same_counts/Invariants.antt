use Rattle.std.proofs.Common.{◌≡◌, ◌+◌, ◌<◌, ℕ}
use Rattle.reading.specs.Reading.{counts_of}
use Rattle.copying.proofs.checks.has_same_counts.Given as goal

abbrev pub invariant-loop-k : goal.invariant-loop-k
invariant-loop-k l = (j : ℕ) → j < l.k → counts_of l.document l.stated (l.first + j) ≡ counts_of l.file l.written (j + 1)
