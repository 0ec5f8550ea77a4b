-- What a page runs over when a copy of it is read, and that a page which was written reads back as its marks.
use Rattle.std.specs.Prelude.{◌≡◌, ℕ, ◌+◌, ◌≤◌, true, List, [], ◌++◌, length, drop, ℤ, pos, Some, None, Ok, Option}
use Rattle.std.specs.List.{AllByRecursion, slice_get}
use Rattle.shelf.specs.Alone.{faces_alone}
use Rattle.shelf.specs.Laws.{GoodMark, Lawful}
use Rattle.shelf.specs.Meaning.{Meaning}
use Rattle.shelf.specs.Outcomes.{well, ends}
use Rattle.machine.specs.declared.registers.Chosen.{Chosen}
use Rattle.machine.specs.Steps.{World, State}
use Rattle.machine.specs.Runs.{run_from}
use Rattle.copies.specs.declared.pairs.Pair.{Pair}
use Rattle.copies.specs.Marks.{faces_of}
use Rattle.copies.specs.Pages.{Page, Progress, page_bytes, with_page}

-- the font that a pair selects among the faces alone
abbrev pub pair_font : Pair → Chosen
pair_font p = record { font = p.face; size = p.size }

-- a page over the faces alone, in which the number of each pair selects its face at its size
pub record Selects (u : World) (m : Meaning) (ps : List Pair) : Type 0 where
  pub below : u.below ≡ faces_alone m
  pub plain : (b : ℤ) → u.measure b ≡ Some b
  pub page : u.page ≡ true
  pub chosen : (i : ℕ) (p : Pair) → slice_get ps i ≡ Some p → u.choose i ≡ Ok (pair_font p)

-- at a position, the spacings 0, no frame saved
abbrev pub placed : ℤ → ℤ → Option Chosen → State
placed h v font = record { at = record { h = h; v = v; w = pos 0; x = pos 0; y = pos 0; z = pos 0 }; font = font; frames = [] }

-- a page starts from (0, 0) with no font
abbrev pub page_start : State
page_start = placed (pos 0) (pos 0) None

-- ten counts of four bytes
abbrev pub Counted : Page → Type 0
Counted p = length p.counts ≡ 40

-- the marks are marks of the shelf
abbrev pub GoodPage : Meaning → Page → Type 0
GoodPage m p = AllByRecursion (GoodMark m.faces) p.marks

-- the bytes of a page that was written, wherever they stand, run to the page's marks and end well
abbrev pub PagesReadBack : Type 0
PagesReadBack =
    (m : Meaning) → Lawful m → (u : World) (s : List ℕ) (at : ℕ) (g : Progress) (p : Page) (rest : List ℕ)
    → Selects u m (with_page (faces_of m) g p).pairs
    → length (with_page (faces_of m) g p).pairs ≤ 64
    → GoodPage m p
    → Counted p
    → drop at s ≡ page_bytes (faces_of m) g p ++ rest
    → run_from u s (at + 45) page_start ≡ ends p.marks (well tt)
