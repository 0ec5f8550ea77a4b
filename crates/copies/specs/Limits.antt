-- How far a copy can come: pairs, pages, and room for the file as it would be closed.
use Rattle.std.specs.Prelude.{ℕ, cond, ◌||◌, length, min, Some, None, Option, nat_lt}
use Rattle.shelf.specs.declared.refusals.Refusal.{Refusal}
use Rattle.shelf.specs.declared.refusals.Refusal.TheVariants.{PairsFull, OutputFull}
use Rattle.shelf.specs.Meaning.{Facts}
use Rattle.copies.specs.Pages.{Progress}
use Rattle.copies.specs.Files.{Opening, closed_length}

-- how many bytes of an output may be used
abbrev pub usable : ℕ → ℕ
usable room = min room 16777216

-- the file, closed when it has come so far, has no room in so many bytes
abbrev pub unfit : (ℕ → Facts) → Opening → Progress → ℕ → Option Refusal
unfit F o g bytes = cond (nat_lt bytes (closed_length F o g)) (Some OutputFull) None

-- a 65th pair; then a 65,536th page, or no room for the file closed behind it
abbrev pub overfull : (ℕ → Facts) → Opening → Progress → ℕ → Option Refusal
overfull F o g bytes =
    cond (nat_lt 64 (length g.pairs)) (Some PairsFull)
    (cond (nat_lt 65535 g.count || nat_lt bytes (closed_length F o g)) (Some OutputFull) None)
