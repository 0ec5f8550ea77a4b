-- Reading a page: a document's page n, run over a shelf.
use Rattle.std.specs.Prelude.{◌≡◌, ℕ, ◌+◌, true, cond, List, [], length, take, drop, nat_le, pos, Some, None, Ok, Err, Option, Result}
use Rattle.std.specs.Option.{option_map, ok_or}
use Rattle.numbers.specs.Lengths.{good_size}
use Rattle.shelf.specs.declared.marks.Link.{Link}
use Rattle.shelf.specs.declared.marks.Mark.{Mark}
use Rattle.shelf.specs.declared.refusals.Cause.{Cause}
use Rattle.shelf.specs.declared.refusals.Cause.TheVariants.{NoFont, NoName, BadSize}
use Rattle.shelf.specs.declared.refusals.Refusal.{Refusal}
use Rattle.shelf.specs.declared.refusals.Refusal.TheVariants.{NoPage}
use Rattle.shelf.specs.Answers.{Answered}
use Rattle.shelf.specs.Meaning.{Meaning}
use Rattle.shelf.specs.Names.{found_in}
use Rattle.shelf.specs.Outcomes.{Outcome}
use Rattle.commands.specs.Definitions.{Defined}
use Rattle.machine.specs.declared.registers.Chosen.{Chosen}
use Rattle.machine.specs.Acts.{Acts, world}
use Rattle.machine.specs.Runs.{run_from}
use Rattle.machine.specs.Steps.{World, State}
use Rattle.document.specs.declared.documents.Document.{Document}
use Rattle.document.specs.Fonts.{font_by}
use Rattle.document.specs.Legal.{legal}
use Rattle.document.specs.Pages.{page_place}

-- a font that was looked for by its name, at a size
abbrev pub at_size : Option ℕ → ℕ → Result Chosen Cause
at_size None size = Err NoName
at_size (Some font) size = cond (good_size size) (Ok (record { font = font; size = size })) (Err BadSize)

-- what a definition selects, on a shelf of fonts with these names
abbrev pub chosen_in : List (List ℕ) → Option Defined → Result Chosen Cause
chosen_in names None = Err NoFont
chosen_in names (Some d) = at_size (found_in names d.name) d.size

-- the link of page n at a place
abbrev pub page_link : ℕ → ℕ → Link
page_link n at = record { font = 65535; code = n; place = at }

-- lengths stand for themselves, and the postamble's definitions hold
abbrev pub page_acts : List ℕ → Document → ℕ → Acts
page_acts bs d n = record { measure = Some; choose = λ names k. chosen_in names (font_by bs d k); page = true; link_at = page_link n }

-- what a page runs over
abbrev pub page_world : Meaning → List ℕ → Document → ℕ → World
page_world m bs d n = world m (page_acts bs d n)

-- zeros and no font
abbrev pub page_start : State
page_start = record { at = record { h = pos 0; v = pos 0; w = pos 0; x = pos 0; y = pos 0; z = pos 0 }; font = None; frames = [] }

-- page n, whose 139 stands at a: its commands are behind its 45 bytes, and before the postamble
unfoldable pub page_outcome : Meaning → List ℕ → Document → ℕ → ℕ → Outcome (Unit {0})
page_outcome m bs d n a = run_from (page_world m bs d n) (take d.post bs) (a + 45) page_start

-- page n of a document that was judged
abbrev pub page_reading : Meaning → List ℕ → Document → ℕ → Result (Outcome (Unit {0})) Refusal
page_reading m bs d n = ok_or (option_map (page_outcome m bs d n) (page_place bs d n)) NoPage

-- by cases, since std has no word for a Result's `and_then`
abbrev pub reading_of : Meaning → List ℕ → ℕ → Result Document Refusal → Result (Outcome (Unit {0})) Refusal
reading_of m bs n (Err e) = Err e
reading_of m bs n (Ok d) = page_reading m bs d n

-- page n of a document
abbrev pub reading : Meaning → List ℕ → ℕ → Result (Outcome (Unit {0})) Refusal
reading m bs n = reading_of m bs n (legal bs)

-- what a call answers and leaves: nothing changes where it is refused before the page is run
abbrev pub Served : {W : Type 0} → Result (Outcome W) Refusal → (chain chain' : List Link) (marks marks' : List Mark) → Result (ℕ × W) Refusal → Type 0
Served (Err e) chain chain' marks marks' r = (r ≡ Err e) × (chain' ≡ chain) × (marks' ≡ marks)
Served (Ok o) chain chain' marks marks' r = Answered o chain chain' marks marks' r

-- the ten counts of the page whose 139 stands at a, as bytes
abbrev pub counts_at : List ℕ → ℕ → List ℕ
counts_at bs a = take 40 (drop (a + 1) bs)

abbrev pub counts_by : List ℕ → Option ℕ → Option (List ℕ)
counts_by bs None = None
counts_by bs (Some a) = cond (nat_le (a + 41) (length bs)) (Some (counts_at bs a)) None

-- the ten counts of page n, where there is one and its counts stand there
abbrev pub counts_of : List ℕ → Document → ℕ → Option (List ℕ)
counts_of bs d n = counts_by bs (page_place bs d n)
