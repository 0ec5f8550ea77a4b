-- The ledger of a run: its source pages, the newest first, judged from the opening, the shelf and the calls' arguments alone.
use Rattle.std.specs.Prelude.{ℕ, Bool, true, false, cond, List, [], ◌∷◌, map, Some, None, Option}
use Rattle.shelf.specs.declared.refusals.Refusal.{Refusal}
use Rattle.shelf.specs.declared.refusals.Refusal.TheVariants.{RunClosed}
use Rattle.shelf.specs.Meaning.{Meaning}
use Rattle.copies.specs.Marks.{faces_of}
use Rattle.copies.specs.Pages.{Page, Progress}
use Rattle.copies.specs.Files.{Opening, closed_length, progress}
use Rattle.ledgers.specs.Sources.{Source, page_of}
use Rattle.ledgers.specs.Rules.{copy_refusal, strike_refusal, close_refusal}
use Rattle.ledgers.specs.Steps.{Act, copy, strike, close, Answer, done, long, refused}

pub record Ledger : Type 0 where
  pub sources : List Source
  pub running : Bool

-- a call, and the length of the output that it was given
pub record Call : Type 0 where
  pub act : Act
  pub room : ℕ

-- the pages of these sources, and how far a run has come with them
abbrev pub pages_of : Meaning → Opening → List Source → List Page
pages_of m o es = map (page_of o.mag m) es

abbrev pub come_by : Meaning → Opening → List Source → Progress
come_by m o es = progress (faces_of m) (pages_of m o es)

abbrev pub ruling : Answer → Option Refusal → Answer
ruling a None = a
ruling a (Some e) = refused e

-- by the rules, on a run that is not closed
abbrev pub ruled_open : Meaning → Opening → Progress → Act → ℕ → Answer
ruled_open m o g (copy s marks) room = ruling done (copy_refusal m o g s marks room)
ruled_open m o g strike room = ruling done (strike_refusal g room)
ruled_open m o g close room = ruling (long (closed_length (faces_of m) o g)) (close_refusal (faces_of m) o g room)

-- what the rules answer to a call
abbrev pub ruled : Meaning → Opening → Ledger → Act → ℕ → Answer
ruled m o b c room = cond b.running (ruled_open m o (come_by m o b.sources) c room) (refused RunClosed)

abbrev pub struck : List Source → List Source
struck [] = []
struck (s ∷ es) = es

-- an accepted copy puts its own last, an accepted strike takes the last off
abbrev pub booked : Ledger → Act → Answer → Ledger
booked b c (refused e) = b
booked b (copy s marks) done = record { sources = s ∷ b.sources; running = b.running }
booked b (copy s marks) (long n) = b
booked b strike done = record { sources = struck b.sources; running = b.running }
booked b strike (long n) = b
booked b close done = b
booked b close (long n) = record { sources = b.sources; running = false }

-- the ledger after these calls, the newest first
unfoldable pub ledger : Meaning → Opening → List Call → Ledger
ledger m o [] = record { sources = []; running = true }
ledger m o (c ∷ cs) = booked (ledger m o cs) c.act (ruled m o (ledger m o cs) c.act c.room)

-- what the rules answer to each
unfoldable pub rulings : Meaning → Opening → List Call → List Answer
rulings m o [] = []
rulings m o (c ∷ cs) = ruled m o (ledger m o cs) c.act c.room ∷ rulings m o cs
