-- What each call of the library answers and leaves, over the shelf of a bundle.
use Rattle.std.specs.Prelude.{◌≡◌, ◌⊎◌, ℕ, List, Ok, Err, Result}
use Rattle.shelf.specs.declared.refusals.Refusal.{Refusal}
use Rattle.shelf.specs.Meaning.{Meaning}
use Rattle.document.specs.declared.documents.Document.{Document}
use Rattle.reading.specs.Reading.{reading}
use Rattle.fulatzebi.specs.declared.records.Answer.{Answer}
use Rattle.fulatzebi.specs.declared.records.DocumentRecord.{DocumentRecord}
use Rattle.fulatzebi.specs.declared.records.FontRecord.{FontRecord}
use Rattle.fulatzebi.specs.declared.records.LinkRecord.{LinkRecord}
use Rattle.fulatzebi.specs.declared.records.MarkRecord.{MarkRecord}
use Rattle.fulatzebi.specs.declared.records.PageRecord.{PageRecord}
use Rattle.fulatzebi.specs.declared.records.SourceRecord.{SourceRecord}
use Rattle.fulatzebi.specs.declared.stops.Step.TheVariants.{Document as Opening}
use Rattle.fulatzebi.specs.declared.stops.Stop.{Stop}
use Rattle.fulatzebi.specs.Answers.{accepted, no_memory, refused}
use Rattle.fulatzebi.specs.Flat.{Flat, flat, flat_stop, lacking, stop_at}
use Rattle.fulatzebi.specs.Layers.{shelf_of}
use Rattle.fulatzebi.specs.Records.{document_record}
use Rattle.fulatzebi.specs.Served.{Lacking, Read, page_stop}

-- a record of the caller's, and what is answered
abbrev pub checked : DocumentRecord → Result Document Refusal → DocumentRecord × Answer
checked before (Ok d) = (document_record d, accepted 0 0)
checked before (Err e) = (before, refused (stop_at Opening e) 0)

abbrev pub found : PageRecord → Result PageRecord Refusal → PageRecord × Answer
found before (Ok p) = (p, accepted 0 0)
found before (Err e) = (before, refused (page_stop 0 e) 0)

-- whether a bundle makes a shelf
abbrev pub made_by : Result Meaning Stop → Answer
made_by (Ok m) = accepted 0 0
made_by (Err s) = refused s 0

abbrev pub Made : List ℕ → List FontRecord → Answer → Type 0
Made bytes fonts a = (a ≡ made_by (shelf_of bytes fonts)) ⊎ (a ≡ refused no_memory 0)

-- a page read over a shelf, if there is one
abbrev pub ReadBy : Result Meaning Stop → List ℕ → ℕ → (links links' : List LinkRecord) (marks marks' : List MarkRecord) → Answer → Type 0
ReadBy (Ok m) document page links links' marks marks' a = Read (reading m document page) links links' marks marks' a
ReadBy (Err s) document page links links' marks marks' a = (a ≡ refused s 0) × (links' ≡ links) × (marks' ≡ marks)

abbrev pub ReadOver : List ℕ → List FontRecord → List ℕ → ℕ → (links links' : List LinkRecord) (marks marks' : List MarkRecord) → Answer → Type 0
ReadOver bytes fonts document page links links' marks marks' a = ReadBy (shelf_of bytes fonts) document page links links' marks marks' a ⊎ Lacking links links' marks marks' a

-- pages copied over a shelf, if there is one
abbrev pub flat_over : Result Meaning Stop → (opening docs : List ℕ) → List SourceRecord → ℕ → List LinkRecord → List ℕ → Flat
flat_over (Ok m) opening docs ss room links out = flat m opening docs ss room links out
flat_over (Err s) opening docs ss room links out = flat_stop s links out

abbrev pub Copied : List ℕ → List FontRecord → (opening docs : List ℕ) → List SourceRecord → ℕ → List LinkRecord → List ℕ → Flat → Type 0
Copied bytes fonts opening docs ss room links out f = (f ≡ flat_over (shelf_of bytes fonts) opening docs ss room links out) ⊎ (f ≡ lacking links out)
