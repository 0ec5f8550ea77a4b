-- What a call with an outcome answers, and what it leaves in the caller's mark list and chain list.
-- The marks stand at the front of the list, a fault's chain at the front of the other, and nothing else changes;
-- a mark list too short is filled, and the answer is that it is full.
use Rattle.std.specs.Prelude.{◌≡◌, ℕ, ◌+◌, cond, List, [], ◌∷◌, length, Ok, Err, Result, nat_le, nat_lt, slice_set}
use Rattle.shelf.specs.declared.marks.Mark.{Mark}
use Rattle.shelf.specs.declared.marks.Link.{Link}
use Rattle.shelf.specs.declared.refusals.Refusal.{Refusal}
use Rattle.shelf.specs.declared.refusals.Refusal.TheVariants.{Fault, MarksFull}
use Rattle.shelf.specs.Outcomes.{Outcome, Ending, well, fault}

-- `ws` written over the front of `xs`, as far as it fits
abbrev pub overlay : {X : Type 0} → List X → List X → List X
overlay [] xs = xs
overlay (w ∷ ws) [] = []
overlay (w ∷ ws) (x ∷ xs) = w ∷ overlay ws xs

-- the marks written and the value, or the fault and how many links its chain has
abbrev pub ended : {W : Type 0} → ℕ → Ending W → Result (ℕ × W) Refusal
ended n (well w) = Ok (n, w)
ended n (fault k ch) = Err (Fault k (length ch))

-- the answer, where there is room for so many marks
unfoldable pub answer : {W : Type 0} → Outcome W → ℕ → Result (ℕ × W) Refusal
answer o room = cond (nat_le (length o.marks) room) (ended (length o.marks) o.ending) (Err MarksFull)

abbrev pub chain_of : {W : Type 0} → Ending W → List Link
chain_of (well w) = []
chain_of (fault k ch) = ch

-- the chain list after the call
unfoldable pub linked : {W : Type 0} → Outcome W → ℕ → List Link → List Link
linked o room links = cond (nat_le (length o.marks) room) (overlay (chain_of o.ending) links) links

pub record Answered {W : Type 0} (o : Outcome W) (chain chain' : List Link) (marks marks' : List Mark) (r : Result (ℕ × W) Refusal) : Type 0 where
  pub answered : r ≡ answer o (length marks)
  pub marked : marks' ≡ overlay o.marks marks
  pub chained : chain' ≡ linked o (length marks) chain

-- an answer where so many marks stood before
abbrev pub shift : {W : Type 0} → ℕ → Result (ℕ × W) Refusal → Result (ℕ × W) Refusal
shift n (Ok p) = Ok (n + p.0, p.1)
shift n (Err e) = Err e

-- a fault that one level more passes on, and the chain list then: at most 65,535 links are counted
abbrev pub link_count : ℕ → ℕ
link_count n = cond (nat_lt n 65535) (n + 1) n

abbrev pub link_written : ℕ → Link → List Link → List Link
link_written n l chain = cond (nat_lt n 65535) (slice_set chain n l) chain
