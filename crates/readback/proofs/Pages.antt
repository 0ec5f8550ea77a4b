-- Pages that were written: how long they are, which pairs they bring, and that they read back. Assumes nothing.
use Rattle.std.proofs.Common.{◌≡◌, ℕ, ◌+◌, ◌<◌, ◌≤◌, List, [], ◌∷◌, ◌++◌, length, drop, refl, ap, ◌∙◌, append_assoc, arith, length-append}
use Rattle.std.specs.List.{AllByRecursion}
use Rattle.std.proofs.ByRecursion.{All-weaker}
use Rattle.numbers.specs.Bytes.{digits}
use Rattle.shelf.specs.Laws.{Lawful}
use Rattle.shelf.specs.Meaning.{Meaning, Facts}
use Rattle.shelf.specs.Outcomes.{well, ends}
use Rattle.machine.specs.Steps.{World}
use Rattle.machine.specs.Runs.{run_from}
use Rattle.copies.specs.Marks.{faces_of, marks_bytes, pen_after_all}
use Rattle.copies.specs.Pages.{Page, Progress, page_pen, page_bytes, with_page}
use Rattle.copies.specs.Files.{front_bytes, progress, body}
use Rattle.readback.specs.Reading.{Selects, Counted, GoodPage, page_start}
use Rattle.readback.proofs.Stands.{behind}
use Rattle.readback.proofs.Pairs.{Grown, Between, GoodPair, length-marks, at_most, marks_places, marks-pairs, grown_weaker, grown_all}
use Rattle.readback.proofs.Marks.{marks-read}

module _ (F : ℕ → Facts) where
  pub length-page : (g : Progress) (p : Page) → Counted p → g.used + length (page_bytes F g p) ≡ (with_page F g p).used
  unfolding page_bytes with_page
  length-page g p forty = grind (arith, length-append, length-marks)

  pub page-used : (g : Progress) (p : Page) → g.used + 46 ≤ (with_page F g p).used
  unfolding with_page
  page-used g p = omega (arith, at_most F (page_pen g) p.marks)

  pub length-body : (mag : ℕ) (ps : List Page) → AllByRecursion Counted ps → length (body F mag ps) ≡ (progress F ps).used
  unfolding body progress front_bytes
  length-body mag [] counted = refl
  length-body mag (p ∷ ps) counted =
      let r = length-body mag ps counted.1 in
      length-append (body F mag ps) (page_bytes F (progress F ps) p) ∙ ap (λ n. n + length (page_bytes F (progress F ps) p)) r ∙ length-page (progress F ps) p counted.0

  pub page-count : (ps : List Page) → (progress F ps).count ≡ length ps
  unfolding progress with_page
  page-count [] = refl
  page-count (p ∷ ps) = omega (arith, page-count ps)

  pub used-least : (ps : List Page) → 15 ≤ (progress F ps).used
  unfolding progress
  used-least [] = omega arith
  used-least (p ∷ ps) = omega (arith, used-least ps, page-used (progress F ps) p)

  -- the pairs of a page more
  pub page_places : (g : Progress) (p : Page) → Grown (Between (g.used + 45) (with_page F g p).used) g.pairs (with_page F g p).pairs
  unfolding with_page
  page_places g p =
      let hi = (pen_after_all F (page_pen g) p.marks).at in
      grown_weaker (Between (g.used + 45) hi) (Between (g.used + 45) (hi + 1)) (λ q b. (b.0, omega (arith, b.1))) g.pairs (pen_after_all F (page_pen g) p.marks).pairs (marks_places F (page_pen g) p.marks)

  pub page-pairs : (m : Meaning) (g : Progress) (p : Page) → GoodPage m p → Grown (GoodPair m) g.pairs (with_page F g p).pairs
  unfolding with_page
  page-pairs m g p good = marks-pairs F m (page_pen g) p.marks good

  pub progress-pairs : (m : Meaning) (ps : List Page) → AllByRecursion (GoodPage m) ps → AllByRecursion (GoodPair m) (progress F ps).pairs
  unfolding progress
  progress-pairs m [] good = tt
  progress-pairs m (p ∷ ps) good =
      grown_all (GoodPair m) (progress F ps).pairs (with_page F (progress F ps) p).pairs (page-pairs m (progress F ps) p good.0) (progress-pairs m ps good.1)

  -- every pair is defined in the pages
  pub progress_places : (ps : List Page) → AllByRecursion (λ q. q.place < (progress F ps).used) (progress F ps).pairs
  unfolding progress
  progress_places [] = tt
  progress_places (p ∷ ps) =
      let g = progress F ps in
      let hi = (with_page F g p).used in
      let up = page-used g p in
      grown_all (λ q. q.place < hi) g.pairs (with_page F g p).pairs
      (grown_weaker (Between (g.used + 45) hi) (λ q. q.place < hi) (λ q b. b.1) g.pairs (with_page F g p).pairs (page_places g p))
      (All-weaker (λ q. q.place < g.used) (λ q. q.place < hi) (λ q b. omega arith) g.pairs (progress_places ps))

-- what stands behind a page's 45 bytes
pub page-marks : (F : ℕ → Facts) (s : List ℕ) (at : ℕ) (g : Progress) (p : Page) (rest : List ℕ) → Counted p → drop at s ≡ page_bytes F g p ++ rest → drop (at + 45) s ≡ marks_bytes F (page_pen g) p.marks ++ (140 ∷ rest)
unfolding page_bytes
page-marks F s at g p rest forty e =
    let ms = marks_bytes F (page_pen g) p.marks in
    let from : drop at s ≡ (139 ∷ p.counts) ++ (digits 4 g.last ++ (ms ++ (140 ∷ rest))) = e ∙ simp append_assoc in
    let pointer = behind s at (139 ∷ p.counts) (digits 4 g.last ++ (ms ++ (140 ∷ rest))) from 41 (at + 41) (omega arith) refl in
    behind s (at + 41) (digits 4 g.last) (ms ++ (140 ∷ rest)) pointer 4 (at + 45) refl (omega arith)

pub page_read : (m : Meaning) → Lawful m → (u : World) (s : List ℕ) (at : ℕ) (g : Progress) (p : Page) (rest : List ℕ) → Selects u m (with_page (faces_of m) g p).pairs → length (with_page (faces_of m) g p).pairs ≤ 64 → GoodPage m p → Counted p → drop at s ≡ page_bytes (faces_of m) g p ++ rest → run_from u s (at + 45) page_start ≡ ends p.marks (well tt)
unfolding with_page
page_read m law u s at g p rest on few good forty e =
    marks-read u s m (pen_after_all (faces_of m) (page_pen g) p.marks).pairs on law few (page_pen g) p.marks refl refl good refl (at + 45) rest (page-marks (faces_of m) s at g p rest forty e)
