use Rattle.std.proofs.Common.{◌≡◌, ℕ, ◌+◌, ◌<◌, [], get_or, Ok}
use Rattle.std.specs.Prelude.{map}
use Rattle.reading.specs.Reading.{page_reading}
use Rattle.shelf.specs.Outcomes.{ends, well}
use Rattle.copying.proofs.checks.reads_as.Given as goal

abbrev pub invariant-loop-k : goal.invariant-loop-k
invariant-loop-k g l = (j : ℕ) → j < l.k → page_reading (g.S.Shelf.means l.shelf) l.file l.written (1 + j) ≡ Ok (ends (get_or (map (λ marks. marks.items) l.wanted) j []) (well tt))
