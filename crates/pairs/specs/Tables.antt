-- The pairs that a table holds, by number.
use Rattle.std.specs.Prelude.{ℕ, Bool, true, false, cond, List, [], ◌∷◌, ◌++◌, length, take, nat_lt}
use Rattle.std.specs.List.{take_while}
use Rattle.copies.specs.declared.pairs.Pair.{Pair}
use Rattle.pairs.specs.declared.tables.PairTable.{PairTable}

abbrev pub pairs_of : PairTable → List Pair
pairs_of t = take t.count t.pairs

-- whether a pair was entered, and the pairs then: at most 64
abbrev pub entered_in : List Pair → Pair → Bool × List Pair
entered_in ps p = cond (nat_lt (length ps) 64) (true, ps ++ (p ∷ [])) (false, ps)

-- the pairs up to the first that is defined at a place or past it: numbers count from the front, so what stands behind a
-- pair that goes cannot keep its number
abbrev pub defined_before : ℕ → List Pair → List Pair
defined_before place ps = take_while (λ p. nat_lt p.place place) ps
