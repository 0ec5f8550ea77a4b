-- What a call that copies pages into one file answers and leaves.
use Rattle.std.specs.Prelude.{ℕ, zero, suc, ◌+◌, cond, List, [], ◌∷◌, map, length, Some, None, Ok, Err, Option, Result, nat_le}
use Rattle.shelf.specs.declared.refusals.Refusal.{Refusal}
use Rattle.shelf.specs.Answers.{chain_of, overlay}
use Rattle.shelf.specs.Meaning.{Meaning}
use Rattle.shelf.specs.Outcomes.{Outcome}
use Rattle.document.specs.declared.documents.Document.{Document}
use Rattle.document.specs.Legal.{legal}
use Rattle.ledgers.specs.Lists.{read_at}
use Rattle.ledgers.specs.Steps.{Seen, Answer as Said, View, beginning, close, copy, done, long, refused as denied, stepped}
use Rattle.fulatzebi.specs.declared.records.Answer.{Answer}
use Rattle.fulatzebi.specs.declared.records.LinkRecord.{LinkRecord}
use Rattle.fulatzebi.specs.declared.records.SourceRecord.{SourceRecord}
use Rattle.fulatzebi.specs.declared.stops.Step.{Step}
use Rattle.fulatzebi.specs.declared.stops.Step.TheVariants.{Document as Opening, Page, Closing}
use Rattle.fulatzebi.specs.declared.stops.Stop.{Stop}
use Rattle.fulatzebi.specs.declared.stops.Why.TheVariants.{BadRecord, Refused}
use Rattle.fulatzebi.specs.Answers.{accepted, no_memory, refused}
use Rattle.fulatzebi.specs.Layers.{bytes_in}
use Rattle.fulatzebi.specs.Records.{link_record}

-- what is answered, and what is left in the caller's chain list and output
pub record Flat : Type 0 where
  pub answer : Answer
  pub links : List LinkRecord
  pub out : List ℕ

abbrev pub stop_at : Step → Refusal → Stop
stop_at s e = record { step = s; why = Refused e }

abbrev pub flat_stop : Stop → List LinkRecord → List ℕ → Flat
flat_stop s links out = record { answer = refused s 0; links = links; out = out }

-- there was no memory, and nothing changed
abbrev pub lacking : List LinkRecord → List ℕ → Flat
lacking links out = flat_stop no_memory links out

-- the chain of what a copy read, if there was room for its marks
abbrev pub links_after : Option (Outcome (Unit {0})) → ℕ → List LinkRecord → List LinkRecord
links_after None room links = links
links_after (Some o) room links = cond (nat_le (length o.marks) room) (overlay (map link_record (chain_of o.ending)) links) links

-- after a copy: on with the other pages, or its refusal with the chain
abbrev pub onward : ℕ → List LinkRecord → List LinkRecord → Seen → Said → (View → List ℕ → Flat) → Flat
onward k links chained seen (denied e) next = flat_stop (stop_at (Page k) e) chained seen.out
onward k links chained seen done next = next seen.run seen.out
onward k links chained seen (long n) next = next seen.run seen.out

abbrev pub copied_by : View → ℕ → List LinkRecord → List ℕ → ℕ → Option (List ℕ) → ℕ → (View → List ℕ → Flat) → Flat
copied_by v k links out room None page next = flat_stop (record { step = Page k; why = BadRecord }) links out
copied_by v k links out room (Some d) page next =
    onward k links (links_after (read_at v (record { document = d; page = page }) (length out)) room links)
    (stepped v (copy (record { document = d; page = page }) room) out) (stepped v (copy (record { document = d; page = page }) room) out).answer next

abbrev pub closed_by : List LinkRecord → List ℕ → Said → Flat
closed_by links out (denied e) = flat_stop (stop_at Closing e) links out
closed_by links out (long n) = record { answer = accepted 0 n; links = links; out = out }
closed_by links out done = record { answer = accepted 0 0; links = links; out = out }

-- the pages from the k-th on are copied by a run, which is then closed
unfoldable pub copied_from : List ℕ → ℕ → List LinkRecord → ℕ → List SourceRecord → View → List ℕ → Flat
copied_from docs room links k [] v out = closed_by links (stepped v close out).out (stepped v close out).answer
copied_from docs room links k (s ∷ ss) v out =
    copied_by v k links out room (bytes_in docs s.place s.length) s.page (λ v' out'. copied_from docs room links (k + 1) ss v' out')

abbrev pub flat_by : List ℕ → ℕ → List LinkRecord → List SourceRecord → List ℕ → Result View Refusal → Flat
flat_by docs room links ss out (Err e) = flat_stop (stop_at Opening e) links out
flat_by docs room links ss out (Ok v) = copied_from docs room links 0 ss v out

-- a run is opened on a document, copies the pages, and is closed; each call does what the rules of a run say
abbrev pub flat : Meaning → (opening docs : List ℕ) → List SourceRecord → ℕ → List LinkRecord → List ℕ → Flat
flat m opening docs ss room links out = flat_by docs room links ss (beginning m opening out).out (beginning m opening out).run

-- every page of a document, in order, from page k on
unfoldable pub pages_from : ℕ → ℕ → ℕ → List SourceRecord
pages_from length k zero = []
pages_from length k (suc n) = record { place = 0; length = length; page = k + 1 } ∷ pages_from length (k + 1) n

abbrev pub count_by : Result Document Refusal → ℕ
count_by (Ok d) = d.pages
count_by (Err e) = 0

-- how many pages a document has; none where it is not legal
abbrev pub page_count : List ℕ → ℕ
page_count document = count_by (legal document)

abbrev pub all_pages : List ℕ → List SourceRecord
all_pages document = pages_from (length document) 0 (page_count document)
