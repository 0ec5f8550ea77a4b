-- The closed file copied page by page over the faces alone comes out the same. Assumes nothing.
use Rattle.std.proofs.Common.{◌≡◌, ℕ, zero, suc, ◌+◌, ◌-◌, ◌*◌, ◌/◌, ◌%◌, ◌<◌, ◌≤◌, Bool, true, false, cond, List, [], ◌∷◌, ◌++◌, length, take, drop, min, replicate, Some, None, Ok, Err, Option, Result, sym, refl, ap, ap₂, ◌∙◌, subst, arith, length-append, append_assoc}
use lib.ListN.{length-replicate}
use Rattle.std.specs.Prelude.{map, nat_le, nat_lt, ◌==◌}
use Rattle.std.specs.Option.{option_or, unwrap_or}
use Rattle.std.specs.Result.{result_err}
use Rattle.std.specs.List.{AllByRecursion, slice_get}
use Rattle.std.proofs.lemmas.Bool.{le-leb, le-ltb, eq-eqb}
use Rattle.shelf.specs.declared.refusals.Refusal.{Refusal}
use Rattle.shelf.specs.declared.refusals.Refusal.TheVariants.{MarksFull, PairsFull, OutputFull, BadOutput}
use Rattle.shelf.specs.Alone.{faces_alone}
use Rattle.shelf.specs.Answers.{answer, ended}
use Rattle.shelf.specs.Laws.{Lawful}
use Rattle.shelf.specs.Meaning.{Meaning, Facts}
use Rattle.shelf.specs.Outcomes.{Outcome, well, ends}
use Rattle.document.specs.declared.documents.Document.{Document}
use Rattle.document.specs.Legal.{legal}
use Rattle.document.specs.Pages.{page_place}
use Rattle.reading.specs.Reading.{reading, reading_of, page_reading, counts_at}
use Rattle.copies.specs.declared.pairs.Pair.{Pair}
use Rattle.copies.specs.Marks.{faces_of, define_bytes}
use Rattle.copies.specs.Pages.{Page, Progress, with_page}
use Rattle.copies.specs.Files.{Opening, fonts_bytes, post_bytes, padding, end_bytes, closing_bytes, closed_length, progress, closed}
use Rattle.readback.proofs.Pairs.{Grown, Between}
use Rattle.readback.proofs.Pages.{page-used, page_places}
use Rattle.closedfiles.specs.Closed.{statement}
use Rattle.ledgers.specs.Sources.{Source, at_mag, sourced, unread, place_by, marks_by, page_of}
use Rattle.copies.specs.Limits.{usable, unfit, overfull}
use Rattle.ledgers.specs.Rules.{too_short, with_source, copy_refusal, close_refusal}
use Rattle.ledgers.specs.Steps.{View, Act, copy, close, Answer, done, long, refused, Seen, stepped}
use Rattle.ledgers.specs.Ledgers.{Ledger, Call, pages_of, come_by, ruling, ruled, booked, ledger, rulings}
use Rattle.ledgers.specs.Histories.{History, SameRead, ClosedFile, PageByPage}
use Rattle.ledgers.proofs.Kept.{Taken, Kept, come_more}
use Rattle.ledgers.proofs.Tracks.{expected, Agree, agrees, Tracks, tracks}
use Rattle.ledgers.proofs.Promised.{Ended, ended-by}

-- ---- a copy that has come further closes to no shorter file

module _ (F : ℕ → Facts) (o : Opening) where
  fonts-longer : (n : ℕ) (ps more : List Pair) → length (fonts_bytes F n ps) ≤ length (fonts_bytes F n (ps ++ more))
  unfolding fonts_bytes
  fonts-longer n [] more = omega arith
  fonts-longer n (p ∷ ps) more =
      let r = fonts-longer (suc n) ps more in
      omega (arith, r, length-append (define_bytes n p.size (F p.face)) (fonts_bytes F (suc n) ps), length-append (define_bytes n p.size (F p.face)) (fonts_bytes F (suc n) (ps ++ more)))

  length-post : (g : Progress) → length (post_bytes o g) ≡ 29
  unfolding post_bytes
  length-post g = refl

  length-end : (q n : ℕ) → length (end_bytes q n) ≡ 6 + padding (n + 6)
  unfolding end_bytes
  length-end q n = omega (arith, length-replicate {A = ℕ} (padding (n + 6)) 223)

  -- to a multiple of 4
  closed-is : (g : Progress) → closed_length F o g ≡ 4 * ((g.used + length (fonts_bytes F 0 g.pairs) + 38) / 4) + 4
  unfolding closing_bytes
  closed-is g =
      let fonts = fonts_bytes F 0 g.pairs in
      let a = length-append (post_bytes o g) (fonts ++ end_bytes g.used (g.used + length (post_bytes o g ++ fonts))) in
      let b = length-append fonts (end_bytes g.used (g.used + length (post_bytes o g ++ fonts))) in
      let c = length-append (post_bytes o g) fonts in
      let d = length-end g.used (g.used + length (post_bytes o g ++ fonts)) in
      let e = length-post g in
      omega (arith, a, b, c, d, e)

  closed-longer : (g : Progress) (p : Page) → closed_length F o g ≤ closed_length F o (with_page F g p)
  closed-longer g p =
      let w = page_places F g p in
      let more = fonts-longer 0 g.pairs w.more in
      let fonts : length (fonts_bytes F 0 g.pairs) ≤ length (fonts_bytes F 0 (with_page F g p).pairs) = subst (λ (qs : List Pair). length (fonts_bytes F 0 g.pairs) ≤ length (fonts_bytes F 0 qs)) (sym w.is) more in
      omega (arith, closed-is g, closed-is (with_page F g p), page-used F g p, fonts)

module _ (m : Meaning) (o : Opening) where
  abbrev F : ℕ → Facts
  F = faces_of m

  come-longer : (pre es : List Source) → closed_length F o (come_by m o es) ≤ closed_length F o (come_by m o (pre ++ es))
  unfolding progress
  come-longer [] es = omega arith
  come-longer (s ∷ pre) es = omega (arith, come-longer pre es, closed-longer F o (come_by m o (pre ++ es)) (page_of o.mag m s))

  nth-behind : (pre es : List Source) (s : Source) → slice_get (pre ++ (s ∷ es)) (length (pre ++ (s ∷ es)) - length (s ∷ es)) ≡ Some s
  nth-behind pre es s = ap (slice_get (pre ++ (s ∷ es))) (omega (arith, length-append pre (s ∷ es))) ∙ at pre
    where
      at : (xs : List Source) → slice_get (xs ++ (s ∷ es)) (length xs) ≡ Some s
      at [] = refl
      at (x ∷ xs) = at xs

  module _ (all : List Source) (kept : Kept m o all) (bs : List ℕ) (file : ClosedFile m o all bs) where
    abbrev alone : Meaning
    alone = faces_alone m

    abbrev stated : Document
    stated = statement F o (pages_of m o all)

    -- the file's pages as sources, the newest first
    abbrev from_file : List Source → List Source
    from_file [] = []
    from_file (s ∷ es) = record { document = bs; page = length (s ∷ es) } ∷ from_file es

    module _ (n : ℕ) (s : Source) (same : SameRead m o bs stated n s) where
      abbrev here : Source
      here = record { document = bs; page = n }

      read-again : sourced o.mag alone here ≡ Ok (ends (page_of o.mag m s).marks (well tt))
      read-again =
          let mag : (stated.mag == o.mag) ≡ true = eq-eqb _ _ refl in
          let r : page_reading alone bs stated n ≡ Ok (ends (page_of o.mag m s).marks (well tt)) = sym (ap (reading_of alone bs n) file.is-legal) ∙ same.marks in
          ap (at_mag o.mag alone here) file.is-legal ∙ rw mag r

      page-again : page_of o.mag alone here ≡ page_of o.mag m s
      page-again =
          let place : place_by here (legal bs) ≡ same.place = ap (place_by here) file.is-legal ∙ ap (λ x. unwrap_or x 0) same.place-is in
          let counts : counts_at bs (place_by here (legal bs)) ≡ (page_of o.mag m s).counts = ap (counts_at bs) place ∙ same.counts in
          let marks : marks_by (sourced o.mag alone here) ≡ (page_of o.mag m s).marks = ap marks_by read-again in
          λ i. record { counts = counts i; marks = marks i }

      unread-none : (marks : ℕ) → length (page_of o.mag m s).marks ≤ marks → unread (sourced o.mag alone here) marks ≡ None
      unfolding answer
      unread-none marks h =
          let fits : nat_le (length (page_of o.mag m s).marks) marks ≡ true = le-leb _ _ h in
          ap (λ r. unread r marks) read-again ∙ rw fits refl

    same-at : (pre : List Source) (s : Source) (es : List Source) → all ≡ pre ++ (s ∷ es) → SameRead m o bs stated (length (s ∷ es)) s
    same-at pre s es e =
        let l = length-append pre (s ∷ es) in
        file.pages (length (s ∷ es)) s (omega arith) (omega (arith, ap length e, l)) (ap (λ (xs : List Source). slice_get xs (length xs - length (s ∷ es))) e ∙ nth-behind pre es s)

    pages-again : (pre es : List Source) → all ≡ pre ++ es → pages_of alone o (from_file es) ≡ pages_of m o es
    pages-again pre [] e = refl
    pages-again pre (s ∷ es) e =
        ap₂ (λ (p : Page) (ps : List Page). p ∷ ps) (page-again (length (s ∷ es)) s (same-at pre s es e))
        (pages-again (pre ++ (s ∷ [])) es (e ∙ sym (append_assoc pre (s ∷ []) es)))

    come-again : (pre es : List Source) → all ≡ pre ++ es → come_by alone o (from_file es) ≡ come_by m o es
    come-again pre es e = ap (progress F) (pages-again pre es e)

    kept-at : (pre : List Source) (s : Source) (es : List Source) → Kept m o (pre ++ (s ∷ es)) → Taken m o es s
    kept-at [] s es k = k.0
    kept-at (x ∷ pre) s es k = kept-at pre s es k.1

    abbrev long-file : ℕ
    long-file = closed_length F o (come_by m o all)

    shorter : (pre es : List Source) → all ≡ pre ++ es → closed_length F o (come_by m o es) ≤ long-file
    shorter pre es e = subst (λ (xs : List Source). closed_length F o (come_by m o es) ≤ closed_length F o (come_by m o xs)) (sym e) (come-longer pre es)

    accepted : (pre : List Source) (s : Source) (es : List Source) → all ≡ pre ++ (s ∷ es) → (marks room : ℕ) → length (page_of o.mag m s).marks ≤ marks → long-file ≤ room
        → copy_refusal alone o (come_by alone o (from_file es)) (record { document = bs; page = length (s ∷ es) }) marks room ≡ None
    accepted pre s es e marks room h l =
        let more : all ≡ (pre ++ (s ∷ [])) ++ es = e ∙ sym (append_assoc pre (s ∷ []) es) in
        let src : Source = record { document = bs; page = length (s ∷ es) } in
        let same = same-at pre s es e in
        let t = kept-at pre s es (subst (Kept m o) e kept) in
        let low = shorter (pre ++ (s ∷ [])) es more in
        let high = shorter pre (s ∷ es) e in
        let pairs = t.few-pairs in
        let count = t.few-pages in
        let short = t.short in
        let g : come_by alone o (from_file es) ≡ come_by m o es = come-again (pre ++ (s ∷ [])) es more in
        let next : with_source alone o (come_by alone o (from_file es)) src ≡ come_by m o (s ∷ es) = come_more alone o (from_file es) src ∙ come-again pre (s ∷ es) e in
        let a : too_short (come_by alone o (from_file es)) room ≡ None = ap (λ (x : Progress). too_short x room) g ∙ rw (le-ltb room (come_by m o es).used (omega arith)) refl in
        let b = unread-none (length (s ∷ es)) s same marks h in
        let c : overfull F o (with_source alone o (come_by alone o (from_file es)) src) (usable room) ≡ None =
        ap (λ (x : Progress). overfull F o x (usable room)) next
        ∙ rw (le-ltb 64 (length (come_by m o (s ∷ es)).pairs) pairs, le-ltb 65535 (come_by m o (s ∷ es)).count count, le-ltb (usable room) (closed_length F o (come_by m o (s ∷ es))) (omega arith)) refl in
        rw (a, b, c) refl

    -- each copy is accepted
    record Accepted (es : List Source) (cs : List Call) : Type 0 where
      ledger-is : ledger alone o cs ≡ record { sources = from_file es; running = true }
      all-done : AllByRecursion (λ x. x ≡ done) (rulings alone o cs)

    accepted-all : (pre es : List Source) → all ≡ pre ++ es → (cs : List Call) → PageByPage m o bs long-file es cs → Accepted es cs
    unfolding ledger rulings
    accepted-all pre [] e [] p = record { ledger-is = refl; all-done = tt }
    accepted-all pre [] e (c ∷ cs) p = absurd p
    accepted-all pre (s ∷ es) e [] p = absurd p
    accepted-all pre (s ∷ es) e (c ∷ cs) p =
        let more : all ≡ (pre ++ (s ∷ [])) ++ es = e ∙ sym (append_assoc pre (s ∷ []) es) in
        let r = accepted-all (pre ++ (s ∷ [])) es more cs p.1 in
        let src : Source = record { document = bs; page = length (s ∷ es) } in
        let b : Ledger = record { sources = from_file es; running = true } in
        let none = accepted pre s es e p.0.0 c.room p.0.2 p.0.3 in
        let d : ruled alone o (ledger alone o cs) c.act c.room ≡ done =
        ap₂ (λ (x : Ledger) (y : Act). ruled alone o x y c.room) r.ledger-is p.0.1 ∙ ap (ruling done) none in
        record {
          ledger-is = (λ i. booked (r.ledger-is i) (p.0.1 i) (d i));
          all-done = (d, r.all-done);
        }

    pub again-same : (cs : List Call) (as' : List Answer) (v : View) (out : List ℕ) → History alone o cs as' v out → PageByPage m o bs long-file all cs → long-file ≤ 16777216 → long-file ≤ length out
        → AllByRecursion (λ x. x ≡ done) as' × ((stepped v close out).answer ≡ long long-file) × (take long-file (stepped v close out).out ≡ bs)
    again-same cs as' v out h p small room =
        let r = accepted-all [] all refl cs p in
        let t = tracks alone o h in
        let b = ledger alone o cs in
        let g : Agree alone o b close (stepped v close out) (ruled alone o b close (length out)) = rw t.run (agrees alone o b.sources b.running close out t.kept t.has) in
        let come : come_by alone o (from_file all) ≡ come_by m o all = come-again [] all refl in
        let none : close_refusal F o (come_by m o all) (length out) ≡ None =
        rw (le-ltb (length out) (come_by m o all).used (omega arith), le-ltb (usable (length out)) long-file (omega arith)) refl in
        let ruling-is : ruled alone o b close (length out) ≡ long long-file =
        ap (λ (x : Ledger). ruled alone o x close (length out)) r.ledger-is
        ∙ ap (λ (x : Progress). ruling (long (closed_length F o x)) (close_refusal F o x (length out))) come
        ∙ ap (ruling (long long-file)) none in
        let answer-is : (stepped v close out).answer ≡ long long-file = g.answer ∙ ruling-is in
        let ended = ended-by alone o cs as' v out h long-file answer-is in (
          subst (AllByRecursion (λ x. x ≡ done)) (sym t.answers) r.all-done,
          answer-is,
          ended.bytes ∙ ap (λ (x : Ledger). closed F o (pages_of alone o x.sources)) r.ledger-is ∙ ap (closed F o) (pages-again [] all refl) ∙ sym file.bytes,
        )
