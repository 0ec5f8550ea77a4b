-- What refuses the calls of a run that is not closed, by how far it has come, the call's arguments and the length of its output.
use Rattle.std.specs.Prelude.{ℕ, cond, Some, None, Option, ◌==◌, nat_lt}
use Rattle.std.specs.Option.{option_or}
use Rattle.shelf.specs.declared.refusals.Refusal.{Refusal}
use Rattle.shelf.specs.declared.refusals.Refusal.TheVariants.{NothingToStrike, BadOutput}
use Rattle.shelf.specs.Meaning.{Meaning, Facts}
use Rattle.copies.specs.Marks.{faces_of}
use Rattle.copies.specs.Pages.{Progress, with_page}
use Rattle.copies.specs.Files.{Opening}
use Rattle.copies.specs.Limits.{usable, unfit, overfull}
use Rattle.ledgers.specs.Sources.{Source, sourced, unread, page_of}

-- the output is below the run's length
abbrev pub too_short : Progress → ℕ → Option Refusal
too_short g room = cond (nat_lt room g.used) (Some BadOutput) None

-- how far a run has come with a source's page
abbrev pub with_source : Meaning → Opening → Progress → Source → Progress
with_source m o g s = with_page (faces_of m) g (page_of o.mag m s)

abbrev pub copy_refusal : Meaning → Opening → Progress → Source → (marks room : ℕ) → Option Refusal
copy_refusal m o g s marks room =
    option_or (too_short g room) (option_or (unread (sourced o.mag m s) marks) (overfull (faces_of m) o (with_source m o g s) (usable room)))

abbrev pub strike_refusal : Progress → ℕ → Option Refusal
strike_refusal g room = cond (g.count == 0) (Some NothingToStrike) (too_short g room)

abbrev pub close_refusal : (ℕ → Facts) → Opening → Progress → ℕ → Option Refusal
close_refusal F o g room = option_or (too_short g room) (unfit F o g (usable room))
