-- A run and its answers as the rules have them.
use Rattle.std.specs.Prelude.{List, ℕ, Some, None, Ok, Err, Option, Result}
use Rattle.shelf.specs.declared.refusals.Refusal.{Refusal}
use Rattle.shelf.specs.Meaning.{Meaning}
use Rattle.copies.specs.declared.pairs.Pair.{Pair}
use Rattle.copies.specs.Pages.{Progress}
use Rattle.pairs.specs.Tables.{pairs_of}
use Rattle.writing.specs.Standings.{opening_of, progress_of}
use Rattle.runs.specs.declared.runs.Run.{Run}
use Rattle.runs.specs.declared.runs.State.{State}
use Rattle.runs.specs.declared.runs.State.TheVariants.{Open, Closed}
use Rattle.ledgers.specs.Steps.{View, Answer, done, long, refused, Begun}

abbrev pub come_of : State → List Pair → Option Progress
come_of (Open standing) ps = Some (progress_of standing ps)
come_of Closed ps = None

abbrev pub view_of : {S : Type 0} → (S → Meaning) → Run S → View
view_of means r = record { means = means r.shelf.now; opening = opening_of r.opening; come = come_of r.state (pairs_of r.pairs) }

abbrev pub said : Result (Unit {0}) Refusal → Answer
said (Ok u) = done
said (Err e) = refused e

abbrev pub lengthened : Result ℕ Refusal → Answer
lengthened (Ok n) = long n
lengthened (Err e) = refused e

abbrev viewed : {S : Type 0} → (S → Meaning) → Result (Run S) Refusal → Result View Refusal
viewed means (Ok r) = Ok (view_of means r)
viewed means (Err e) = Err e

abbrev pub begun : {S : Type 0} → (S → Meaning) → Result (Run S) Refusal → List ℕ → Begun
begun means r out = record { run = viewed means r; out = out }
