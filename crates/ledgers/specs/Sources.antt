-- Source pages: a document and the number of one of its pages, and what a copy takes from it.
use Rattle.std.specs.Prelude.{ℕ, cond, List, [], Some, None, Ok, Err, Option, Result, ◌==◌}
use Rattle.std.specs.Option.{unwrap_or}
use Rattle.std.specs.Result.{result_err}
use Rattle.shelf.specs.declared.marks.Mark.{Mark}
use Rattle.shelf.specs.declared.refusals.Refusal.{Refusal}
use Rattle.shelf.specs.declared.refusals.Refusal.TheVariants.{OtherMag}
use Rattle.shelf.specs.Answers.{answer}
use Rattle.shelf.specs.Meaning.{Meaning}
use Rattle.shelf.specs.Outcomes.{Outcome}
use Rattle.document.specs.declared.documents.Document.{Document}
use Rattle.document.specs.Legal.{legal}
use Rattle.document.specs.Pages.{page_place}
use Rattle.reading.specs.Reading.{page_reading, counts_at}
use Rattle.copies.specs.Pages.{Page}

-- a document's bytes, and a page number
pub record Source : Type 0 where
  pub document : List ℕ
  pub page : ℕ

-- by cases, since std has no word for a Result's `and_then`
abbrev pub at_mag : ℕ → Meaning → Source → Result Document Refusal → Result (Outcome (Unit {0})) Refusal
at_mag mag m s (Err e) = Err e
at_mag mag m s (Ok d) = cond (d.mag == mag) (page_reading m s.document d s.page) (Err OtherMag)

-- reading a source for a copy of a magnification: the document's own checks, then that it has it, then the page
abbrev pub sourced : ℕ → Meaning → Source → Result (Outcome (Unit {0})) Refusal
sourced mag m s = at_mag mag m s (legal s.document)

-- what refuses it, with a list for so many marks
abbrev pub unread : Result (Outcome (Unit {0})) Refusal → ℕ → Option Refusal
unread (Err e) room = Some e
unread (Ok o) room = result_err (answer o room)

-- the place of its page; 0 where there is none
abbrev pub place_by : Source → Result Document Refusal → ℕ
place_by s (Ok d) = unwrap_or (page_place s.document d s.page) 0
place_by s (Err e) = 0

-- its marks; none where it cannot be read
abbrev pub marks_by : Result (Outcome (Unit {0})) Refusal → List Mark
marks_by (Ok o) = o.marks
marks_by (Err e) = []

-- the page of a copy that it makes: its ten counts, and its marks over the shelf
abbrev pub page_of : ℕ → Meaning → Source → Page
page_of mag m s = record { counts = counts_at s.document (place_by s (legal s.document)); marks = marks_by (sourced mag m s) }
