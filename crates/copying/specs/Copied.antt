-- What a copy of a document's pages comes to.
use Rattle.std.specs.Prelude.{◌≡◌, ℕ, zero, suc, ◌+◌, List, [], ◌∷◌, Ok, Err, Result}
use Rattle.shelf.specs.declared.refusals.Refusal.{Refusal}
use Rattle.shelf.specs.Meaning.{Meaning}
use Rattle.document.specs.declared.documents.Document.{Document}
use Rattle.document.specs.Legal.{legal}
use Rattle.copies.specs.Files.{Opening}
use Rattle.ledgers.specs.Histories.{History, ClosedFile}
use Rattle.ledgers.specs.Ledgers.{Call, ledger}
use Rattle.ledgers.specs.Sources.{Source}
use Rattle.ledgers.specs.Steps.{Answer, refused, View, opening_by}

-- so many pages of a document, from one on; the last comes first
abbrev pub sources : List ℕ → ℕ → ℕ → List Source
sources document first zero = []
sources document first (suc count) = record { document = document; page = first + count } ∷ sources document first count

-- a file is the copy of these pages: its bytes, that it is legal, its pages
pub record Copied (m : Meaning) (document : List ℕ) (first count : ℕ) (file : List ℕ) : Type 0 where
  pub stated : Document
  pub judged : legal document ≡ Ok stated
  pub closed-file : ClosedFile m (opening_by stated) (sources document first count) file

-- a run is on a course: calls have led to it, and its output holds their ledger's pages
pub record Course (m : Meaning) (o : Opening) (es : List Source) (v : View) (out : List ℕ) : Type 0 where
  pub calls : List Call
  pub answers : List Answer
  pub history : History m o calls answers v out
  pub sources-are : (ledger m o calls).sources ≡ es

-- the last call was refused so
abbrev pub LastRefused : Refusal → List Answer → Type 0
LastRefused e answers = (earlier : List Answer) × (answers ≡ refused e ∷ earlier)

-- a page is copied and its source taken, or the last call was refused
abbrev pub GoesOn : Meaning → Opening → List Source → Source → View → List ℕ → Result (Unit {0}) Refusal → Type 0
GoesOn m o es s v out (Ok u) = Course m o (s ∷ es) v out
GoesOn m o es s v out (Err e) = (course : Course m o es v out) × LastRefused e course.answers

-- a run that was opened on a document, and is on a course
pub record Started (m : Meaning) (document : List ℕ) (es : List Source) (v : View) (out : List ℕ) : Type 0 where
  pub stated : Document
  pub judged : legal document ≡ Ok stated
  pub course : Course m (opening_by stated) es v out
