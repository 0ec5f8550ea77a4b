-- How `Answered` is made. Assumes nothing.
use Rattle.std.specs.Prelude.{◌≡◌, ℕ, ◌<◌, ◌≤◌, List, [], ◌∷◌, length, ℤ, Ok, Err, slice_set, refl}
use Rattle.std.proofs.Common.{sym, ap, subst, zero-le, arith}
use Rattle.std.proofs.lemmas.Bool.{cond-true, cond-false, le-leb, lt-leb}
use Rattle.shelf.specs.declared.marks.Mark.{Mark}
use Rattle.shelf.specs.declared.marks.Link.{Link}
use Rattle.shelf.specs.declared.refusals.Cause.{Cause}
use Rattle.shelf.specs.declared.refusals.Refusal.TheVariants.{Fault, MarksFull}
use Rattle.shelf.specs.Outcomes.{Outcome, Ending, well, fault, ends, faulty}
use Rattle.shelf.specs.Answers.{answer, linked, overlay, ended, chain_of, Answered}
use Rattle.shelf.specs.Meaning.{Meaning, called, started, unless}

pub answer-fits : {W : Type 0} (o : Outcome W) (room : ℕ) → length o.marks ≤ room → answer o room ≡ ended (length o.marks) o.ending
unfolding answer
answer-fits o room h = cond-true _ _ _ (le-leb (length o.marks) room h)

pub answer-full : {W : Type 0} (o : Outcome W) (room : ℕ) → room < length o.marks → answer o room ≡ Err MarksFull
unfolding answer
answer-full o room h = cond-false _ _ _ (lt-leb (length o.marks) room h)

pub linked-fits : {W : Type 0} (o : Outcome W) (room : ℕ) (ls : List Link) → length o.marks ≤ room → linked o room ls ≡ overlay (chain_of o.ending) ls
unfolding linked
linked-fits o room ls h = cond-true _ _ _ (le-leb (length o.marks) room h)

pub linked-full : {W : Type 0} (o : Outcome W) (room : ℕ) (ls : List Link) → room < length o.marks → linked o room ls ≡ ls
unfolding linked
linked-full o room ls h = cond-false _ _ _ (lt-leb (length o.marks) room h)

-- the outcome of a call, by its first checks
pub called-fault : (m : Meaning) (font size code : ℕ) (h v : ℤ) (k : Cause) → started (length m.names) font size h v ≡ Err k → called m font size code h v ≡ faulty k
unfolding called
called-fault m font size code h v k e = ap (λ s. unless s (m.outcome font size code h v)) e

pub called_runs : (m : Meaning) (font size code : ℕ) (h v : ℤ) (p : ℤ × ℤ) → started (length m.names) font size h v ≡ Ok p → called m font size code h v ≡ m.outcome font size code h v
unfolding called
called_runs m font size code h v p e = ap (λ s. unless s (m.outcome font size code h v)) e

module _ {W : Type 0} (ms : List Mark) (e : Ending W) (chain : List Link) (marks : List Mark) where
  -- all marks found room
  pub made : length ms ≤ length marks → Answered (ends ms e) chain (overlay (chain_of e) chain) marks (overlay ms marks) (ended (length ms) e)
  made h = record { answered = sym (answer-fits (ends ms e) (length marks) h); marked = refl; chained = sym (linked-fits (ends ms e) (length marks) chain h) }

  -- they did not
  pub filled : length marks < length ms → Answered (ends ms e) chain chain marks (overlay ms marks) (Err MarksFull)
  filled h = record { answered = sym (answer-full (ends ms e) (length marks) h); marked = refl; chained = sym (linked-full (ends ms e) (length marks) chain h) }

-- a call without a mark
pub silent : {W : Type 0} (e : Ending W) (chain : List Link) (marks : List Mark) → Answered (ends [] e) chain (overlay (chain_of e) chain) marks marks (ended 0 e)
silent e chain marks = made [] e chain marks zero-le

-- the ways of a face or a rule: a fault at once, a width alone, no room for its one mark, that mark
module _ (o : Outcome ℤ) (chain : List Link) (marks : List Mark) where
  pub by-fault : (k : Cause) → o ≡ faulty k → Answered o chain chain marks marks (Err (Fault k 0))
  by-fault k e = subst (λ p. Answered p chain chain marks marks (Err (Fault k 0))) (sym e) (silent (fault k []) chain marks)

  pub by-blank : (w : ℤ) → o ≡ ends [] (well w) → Answered o chain chain marks marks (Ok (0, w))
  by-blank w e = subst (λ p. Answered p chain chain marks marks (Ok (0, w))) (sym e) (silent (well w) chain marks)

  pub by-full : (x : Mark) (w : ℤ) → o ≡ ends (x ∷ []) (well w) → length marks ≡ 0 → Answered o chain chain marks marks (Err MarksFull)
  by-full x w e h = none marks h
    where
      none : (ms : List Mark) → length ms ≡ 0 → Answered o chain chain ms ms (Err MarksFull)
      none [] g = subst (λ q. Answered q chain chain [] [] (Err MarksFull)) (sym e) (filled (x ∷ []) (well w) chain [] (omega arith))
      none (m ∷ ms) g = absurd (omega arith)

  pub by_one : (x : Mark) (w : ℤ) → o ≡ ends (x ∷ []) (well w) → 0 < length marks → Answered o chain chain marks (slice_set marks 0 x) (Ok (1, w))
  by_one x w e h = some marks h
    where
      some : (ms : List Mark) → 0 < length ms → Answered o chain chain ms (slice_set ms 0 x) (Ok (1, w))
      some [] g = absurd (omega arith)
      some (m ∷ ms) g = subst (λ q. Answered q chain chain (m ∷ ms) (x ∷ ms) (Ok (1, w))) (sym e) (made (x ∷ []) (well w) chain (m ∷ ms) (omega arith))
