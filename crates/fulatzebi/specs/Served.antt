-- What a call that reads a page answers, and what it leaves in the caller's lists of records.
use Rattle.std.specs.Prelude.{◌≡◌, ◌⊎◌, ℕ, pos, Bool, false, cond, List, map, length, min, take, Ok, Err, Result, nat_le, ◌==◌}
use Rattle.std.specs.List.{position_or_len}
use Rattle.shelf.specs.declared.marks.Mark.{Mark}
use Rattle.shelf.specs.declared.marks.Mark.TheVariants.{Glyph, Rule}
use Rattle.shelf.specs.declared.marks.Link.{Link}
use Rattle.shelf.specs.declared.refusals.Refusal.{Refusal}
use Rattle.shelf.specs.Answers.{answer, chain_of, overlay}
use Rattle.shelf.specs.Outcomes.{Outcome}
use Rattle.fulatzebi.specs.declared.records.Answer.{Answer}
use Rattle.fulatzebi.specs.declared.records.LinkRecord.{LinkRecord}
use Rattle.fulatzebi.specs.declared.records.MarkRecord.{MarkRecord}
use Rattle.fulatzebi.specs.declared.stops.Step.TheVariants.{Page}
use Rattle.fulatzebi.specs.declared.stops.Stop.{Stop}
use Rattle.fulatzebi.specs.declared.stops.Why.TheVariants.{Refused}
use Rattle.fulatzebi.specs.Answers.{accepted, no_memory, refused}
use Rattle.fulatzebi.specs.Records.{link_record, mark_record}

-- what a fresh list holds
abbrev pub mark_filler : Mark
mark_filler = Rule 0 0 (pos 0) (pos 0)

abbrev pub link_filler : Link
link_filler = record { font = 0; code = 0; place = 0 }

abbrev pub is_filler : Mark → Bool
is_filler (Rule height width h v) = height == 0
is_filler (Glyph face size code h v) = false

-- the marks before the first filler
abbrev pub made : List Mark → List Mark
made ms = take (position_or_len is_filler ms) ms

-- a page of a call, refused
abbrev pub page_stop : ℕ → Refusal → Stop
page_stop k e = record { step = Page k; why = Refused e }

-- the marks are at the front of the list, as far as there is room
abbrev pub marks_left : {W : Type 0} → Result (Outcome W) Refusal → List MarkRecord → List MarkRecord
marks_left (Err e) marks = marks
marks_left (Ok o) marks = overlay (map mark_record o.marks) marks

-- a fault's chain is at the front of the list, if there was room for the marks
abbrev pub links_left : {W : Type 0} → Result (Outcome W) Refusal → ℕ → List LinkRecord → List LinkRecord
links_left (Err e) room links = links
links_left (Ok o) room links = cond (nat_le (length o.marks) room) (overlay (map link_record (chain_of o.ending)) links) links

abbrev pub ended_by : ℕ → Result (ℕ × Unit {0}) Refusal → Answer
ended_by made (Ok p) = accepted p.0 0
ended_by made (Err e) = refused (page_stop 0 e) made

abbrev pub answered_by : Result (Outcome (Unit {0})) Refusal → ℕ → Answer
answered_by (Err e) room = refused (page_stop 0 e) 0
answered_by (Ok o) room = ended_by (min (length o.marks) room) (answer o room)

-- what a reading comes to, told in records
pub record Read (r : Result (Outcome (Unit {0})) Refusal) (links links' : List LinkRecord) (marks marks' : List MarkRecord) (a : Answer) : Type 0 where
  pub answered : a ≡ answered_by r (length marks)
  pub marked : marks' ≡ marks_left r marks
  pub linked : links' ≡ links_left r (length marks) links

-- there was no memory, and nothing changed
pub record Lacking (links links' : List LinkRecord) (marks marks' : List MarkRecord) (a : Answer) : Type 0 where
  pub answered : a ≡ refused no_memory 0
  pub marked : marks' ≡ marks
  pub linked : links' ≡ links

abbrev pub Told : Result (Outcome (Unit {0})) Refusal → (links links' : List LinkRecord) (marks marks' : List MarkRecord) → Answer → Type 0
Told r links links' marks marks' a = Read r links links' marks marks' a ⊎ Lacking links links' marks marks' a
