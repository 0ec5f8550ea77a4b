-- What the output of an accepted copy is: the closed file of its sources.
use Rattle.std.specs.Prelude.{◌≡◌, ℕ, List, [], ◌∷◌, Ok, Err, Result}
use Rattle.shelf.specs.Meaning.{Meaning}
use Rattle.tfm.specs.Making.{slice}
use Rattle.document.specs.declared.documents.Document.{Document}
use Rattle.document.specs.Legal.{legal}
use Rattle.ledgers.specs.Histories.{ClosedFile}
use Rattle.ledgers.specs.Sources.{Source}
use Rattle.ledgers.specs.Steps.{opening_by}
use Rattle.fulatzebi.specs.declared.records.SourceRecord.{SourceRecord}
use Rattle.fulatzebi.specs.declared.stops.Stop.{Stop}

-- the source page that a record names
abbrev pub named : List ℕ → SourceRecord → Source
named docs s = record { document = slice docs s.place s.length; page = s.page }

-- the sources of these records, the newest first, before those that are there
unfoldable pub listed : List ℕ → List Source → List SourceRecord → List Source
listed docs es [] = es
listed docs es (s ∷ ss) = listed docs (named docs s ∷ es) ss

-- the file is that of the sources, with the opening of a legal document: its bytes, that it is legal, and its pages
pub record Filed (m : Meaning) (opening docs : List ℕ) (ss : List SourceRecord) (file : List ℕ) : Type 0 where
  pub stated : Document
  pub is-legal : legal opening ≡ Ok stated
  pub closed : ClosedFile m (opening_by stated) (listed docs [] ss) file

-- over the shelf of a bundle, if there is one
abbrev pub FiledBy : Result Meaning Stop → (opening docs : List ℕ) → List SourceRecord → List ℕ → Type 0
FiledBy (Ok m) opening docs ss file = Filed m opening docs ss file
FiledBy (Err s) opening docs ss file = ⊥
