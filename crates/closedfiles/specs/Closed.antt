-- What the file that a copy closes to says: it is legal, and its pages are the pages that were written.
use Rattle.std.specs.Prelude.{◌≡◌, ℕ, ◌+◌, ◌-◌, ◌^◌, ◌<◌, ◌≤◌, List, length, Some, Ok}
use Rattle.std.specs.List.{AllByRecursion, slice_get}
use Rattle.shelf.specs.Alone.{faces_alone}
use Rattle.shelf.specs.Laws.{Lawful}
use Rattle.shelf.specs.Meaning.{Meaning, Facts}
use Rattle.shelf.specs.Outcomes.{well, ends}
use Rattle.copies.specs.Marks.{faces_of}
use Rattle.copies.specs.Pages.{Page, Progress}
use Rattle.copies.specs.Files.{Opening, fonts_bytes, progress, closed}
use Rattle.document.specs.declared.documents.Document.{Document}
use Rattle.document.specs.Legal.{legal}
use Rattle.document.specs.Pages.{page_place}
use Rattle.reading.specs.Reading.{reading, counts_at}
use Rattle.readback.specs.Reading.{Counted, GoodPage}

-- pages, the newest first, that a copy can have written and closed
pub record Writable (m : Meaning) (o : Opening) (ps : List Page) : Type 0 where
  pub counted : AllByRecursion Counted ps
  pub good : AllByRecursion (GoodPage m) ps
  pub few-pairs : length (progress (faces_of m) ps).pairs ≤ 64
  pub few-pages : length ps < 2 ^ 16
  pub mag-least : 1 ≤ o.mag
  pub mag-most : o.mag ≤ 32768
  pub l-fits : o.l < 2 ^ 32
  pub u-fits : o.u < 2 ^ 32
  pub short : length (closed (faces_of m) o ps) ≤ 16777216

-- the place of the 249: behind the pages, the postamble's 29 bytes and the definitions
abbrev pub end_of : (ℕ → Facts) → Progress → ℕ
end_of F g = g.used + 29 + length (fonts_bytes F 0 g.pairs)

-- what the closed file states
abbrev pub statement : (ℕ → Facts) → Opening → List Page → Document
statement F o ps =
    record {
      mag = o.mag;
      l = o.l;
      u = o.u;
      post = (progress F ps).used;
      end = end_of F (progress F ps);
      last = (progress F ps).last;
      pages = length ps;
    }

-- page n as it was written
abbrev pub PageReads : Meaning → Opening → List Page → ℕ → Page → Type 0
PageReads m o ps n p =
    (place : ℕ)
    × (page_place (closed (faces_of m) o ps) (statement (faces_of m) o ps) n ≡ Some place)
    × (counts_at (closed (faces_of m) o ps) place ≡ p.counts)
    × (reading (faces_alone m) (closed (faces_of m) o ps) n ≡ Ok (ends p.marks (well tt)))

pub record Reads (m : Meaning) (o : Opening) (ps : List Page) : Type 0 where
  pub is-legal : legal (closed (faces_of m) o ps) ≡ Ok (statement (faces_of m) o ps)
  pub pages : (n : ℕ) (p : Page) → 1 ≤ n → n ≤ length ps → slice_get ps (length ps - n) ≡ Some p → PageReads m o ps n p

-- the closed file of a copy reads as what was written
abbrev pub ClosedFilesRead : Type 0
ClosedFilesRead = (m : Meaning) → Lawful m → (o : Opening) (ps : List Page) → Writable m o ps → Reads m o ps
