-- Each page of the closed file reads as it was written. Assumes nothing.
use Rattle.std.proofs.Common.{◌≡◌, ℕ, zero, suc, ◌+◌, ◌-◌, ◌<◌, ◌≤◌, true, List, [], ◌∷◌, ◌++◌, length, get_or, take, drop, Some, None, Ok, sym, refl, ap, subst, ◌∙◌, append-nil, arith}
use Rattle.std.specs.List.{AllByRecursion, slice_get}
use Rattle.std.proofs.lemmas.Bool.{le-leb}
use Rattle.numbers.specs.Lengths.{good_size}
use Rattle.shelf.specs.Alone.{name_of, faces_alone}
use Rattle.shelf.specs.FaceLaws.{named, alone_distinct}
use Rattle.shelf.specs.Finding.{found_distinct}
use Rattle.shelf.specs.Laws.{Lawful}
use Rattle.shelf.specs.Meaning.{Meaning, Facts, FaceMeaning}
use Rattle.shelf.specs.Names.{found_in}
use Rattle.shelf.specs.Outcomes.{well, ends}
use Rattle.machine.specs.Runs.{run_from}
use Rattle.copies.specs.declared.pairs.Pair.{Pair}
use Rattle.copies.specs.Marks.{faces_of}
use Rattle.copies.specs.Pages.{Page, Progress, page_bytes, with_page}
use Rattle.copies.specs.Files.{Opening, progress, body, closed}
use Rattle.document.specs.Fonts.{font_by, font_from}
use Rattle.document.specs.Pages.{page_before, page_place}
use Rattle.reading.specs.Reading.{chosen_in, at_size, page_world, page_outcome, reading, counts_at}
use Rattle.readback.specs.Reading.{Selects, Counted, GoodPage, pair_font, page_start}
use Rattle.readback.proofs.Marks.{some_there, facts_are}
use Rattle.readback.proofs.Pages.{page_read, progress-pairs, page-pairs}
use Rattle.readback.proofs.Pairs.{Grown, GoodPair, grown_keeps, grown_length}
use Rattle.readback.proofs.Commands.{defined_by}
use Rattle.closedfiles.specs.Closed.{Writable, Reads, PageReads, end_of, statement}
use Rattle.closedfiles.proofs.Laid.{file-is, before_post, fonts-last}
use Rattle.closedfiles.proofs.Fonts.{font-found}
use Rattle.closedfiles.proofs.Chain.{page-back, page-at, page-counts, older_pairs}
use Rattle.closedfiles.proofs.Legal.{small, closed-legal}

-- a face of the shelf is found by its name among the faces alone
face-found : (m : Meaning) → Lawful m → (k : ℕ) (f : FaceMeaning) → slice_get m.faces k ≡ Some f → found_in (faces_alone m).names f.facts.name ≡ Some k
face-found m law k f is =
    let n = named m.faces k f [] is in
    ap (found_in (faces_alone m).names) (sym n.1) ∙ found_distinct (faces_alone m).names k (alone_distinct m law) n.0

all-at : {X : Type 0} (P : X → Type 0) (xs : List X) (i : ℕ) (x : X) → AllByRecursion P xs → slice_get xs i ≡ Some x → P x
all-at P [] i x all is = cc
all-at P (y ∷ xs) zero x all is = let same : y ≡ x = cc in subst P same all.0
all-at P (y ∷ xs) (suc i) x all is = all-at P xs i x all.1 is

module _ (m : Meaning) (law : Lawful m) (o : Opening) (ps : List Page) (w : Writable m o ps) where
  abbrev F : ℕ → Facts
  F = faces_of m

  abbrev s : List ℕ
  s = closed F o ps

  abbrev now : Progress
  now = progress F ps

  -- the number of a pair selects its face at its size
  pair-chosen : (i : ℕ) (p : Pair) → slice_get now.pairs i ≡ Some p → chosen_in (faces_alone m).names (font_by s (statement F o ps) i) ≡ Ok (pair_font p)
  unfolding font_from
  pair-chosen i p is =
      let good = all-at (GoodPair m) now.pairs i p (progress-pairs F m ps w.good) is in
      let f = some_there (slice_get m.faces p.face) good.1 in
      let by : font_by s (statement F o ps) i ≡ Some (defined_by i p.size (F p.face)) =
      font-found m law (take (end_of F now) s) now.pairs (now.used + 29) 0 [] (progress-pairs F m ps w.good) (omega (arith, w.few-pairs)) (fonts-last F o ps w.counted) i i p (omega arith) is in
      let name : (F p.face).name ≡ f.0.facts.name = ap (λ (x : Facts). x.name) (facts_are m p.face f.0 f.1) in
      ap (chosen_in (faces_alone m).names) by
      ∙ ap (λ x. at_size x p.size) (ap (found_in (faces_alone m).names) name ∙ face-found m law p.face f.0 f.1)
      ∙ rw good.0 refl

  module _ (n : ℕ) (p : Page) (least : 1 ≤ n) (most : n ≤ length ps) (is : slice_get ps (length ps - n) ≡ Some p) where
    -- how many pages are newer
    abbrev newer : ℕ
    newer = length ps - n

    -- the copy as it was before the page
    abbrev before : Progress
    before = progress F (drop (suc newer) ps)

    abbrev place : ℕ
    place = before.used

    found : page_place s (statement F o ps) n ≡ Some place
    unfolding page_place
    found =
        let b = page-back F o.mag s ps _ newer w.counted (file-is F o ps w.counted) (omega arith) (small m law o ps w) in
        grind (arith, le-leb, b)

    stands : (more : List ℕ) × (drop place s ≡ page_bytes F before p ++ more)
    stands = page-at F o.mag s ps _ newer p w.counted (file-is F o ps w.counted) is

    -- before the postamble as well
    stands_before : (more : List ℕ) × (drop place (take now.used s) ≡ page_bytes F before p ++ more)
    stands_before = page-at F o.mag (take now.used s) ps [] newer p w.counted (before_post F o ps w.counted ∙ sym (append-nil (body F o.mag ps))) is

    older : Grown (GoodPair m) (with_page F before p).pairs now.pairs
    older = older_pairs F m ps newer p w.good is

    selects : Selects (page_world (faces_alone m) s (statement F o ps) n) m (with_page F before p).pairs
    selects =
        record {
          below = refl;
          plain = λ b. refl;
          page = refl;
          chosen = λ i q e. pair-chosen i q (grown_keeps (GoodPair m) (with_page F before p).pairs now.pairs older i q e);
        }

    runs : page_outcome (faces_alone m) s (statement F o ps) n place ≡ ends p.marks (well tt)
    unfolding page_outcome
    runs =
        page_read m law (page_world (faces_alone m) s (statement F o ps) n) (take now.used s) place before p stands_before.0 selects
        (omega (arith, grown_length (GoodPair m) (with_page F before p).pairs now.pairs older, w.few-pairs))
        (all-at (GoodPage m) ps newer p w.good is) (all-at Counted ps newer p w.counted is) stands_before.1

    pub page-reads : PageReads m o ps n p
    page-reads = (
      place,
      found,
      page-counts F s place before p stands.0 (all-at Counted ps newer p w.counted is) stands.1,
      rw (closed-legal m law o ps w, found, runs) refl,
    )

  pub all_read : Reads m o ps
  all_read = record { is-legal = closed-legal m law o ps w; pages = page-reads }
