-- The sources of a ledger: each was read in full, and a copy of them can be closed. Assumes nothing.
use Rattle.std.proofs.Common.{◌≡◌, ℕ, zero, suc, ◌+◌, ◌-◌, ◌^◌, ◌<◌, ◌≤◌, Bool, true, false, cond, ◌||◌, List, [], ◌∷◌, ◌++◌, length, take, drop, min, Some, None, Ok, Err, Option, Result, sym, refl, ap, ◌∙◌, subst, arith, length-append, length-drop}
use Rattle.std.specs.Prelude.{nat_le, nat_lt, map, slice_index, ◌==◌}
use Rattle.std.specs.Option.{option_or, option_map, ok_or, unwrap_or}
use Rattle.std.specs.Result.{result_err}
use Rattle.std.specs.List.{AllByRecursion}
use Rattle.std.proofs.lemmas.Bool.{leb-true, ltb-false}
use Rattle.std.proofs.lemmas.List.{length-take-le, length-map}
use Rattle.shelf.specs.declared.marks.Mark.{Mark}
use Rattle.shelf.specs.declared.refusals.Refusal.{Refusal}
use Rattle.shelf.specs.declared.refusals.Refusal.TheVariants.{MarksFull, PairsFull, OutputFull, BadOutput, NoPage, OtherMag, Fault}
use Rattle.shelf.specs.Answers.{answer, ended}
use Rattle.shelf.specs.Laws.{Lawful, GoodMark}
use Rattle.shelf.specs.Meaning.{Meaning, Facts}
use Rattle.shelf.specs.Outcomes.{Outcome, Ending, well, fault, ends}
use Rattle.machine.proofs.Good.{Good, good-run}
use Rattle.document.specs.declared.documents.Document.{Document}
use Rattle.document.specs.Legal.{legal}
use Rattle.document.specs.Pages.{page_place}
use Rattle.reading.specs.Reading.{page_reading, page_outcome, page_world, page_start, counts_at}
use Rattle.copies.specs.Marks.{faces_of}
use Rattle.copies.specs.Pages.{Page, Progress, with_page}
use Rattle.copies.specs.Files.{Opening, closed_length, progress, body, closed, closing_bytes, begun}
use Rattle.readback.specs.Reading.{Counted, GoodPage}
use Rattle.readback.proofs.Pages.{length-body, page-count}
use Rattle.closedfiles.specs.Closed.{Writable}
use Rattle.ledgers.specs.Sources.{Source, at_mag, sourced, unread, place_by, marks_by, page_of}
use Rattle.copies.specs.Limits.{usable, unfit, overfull}
use Rattle.ledgers.specs.Rules.{too_short, with_source, copy_refusal}
use Rattle.ledgers.specs.Ledgers.{pages_of, come_by}
use Rattle.ledgers.proofs.Documents.{page_stands}

pub or_none : {X : Type 0} (a b : Option X) → option_or a b ≡ None → (a ≡ None) × (b ≡ None)
or_none None b e = (refl, e)
or_none (Some x) b e = absurd (let z : ◌≡◌ {A = ℕ} 0 1 = cc in omega arith)

pub passed_test : {X : Type 0} (b : Bool) (x : X) (o : Option X) → cond b (Some x) o ≡ None → (b ≡ false) × (o ≡ None)
passed_test true x o e = absurd (let z : ◌≡◌ {A = ℕ} 0 1 = cc in omega arith)
passed_test false x o e = (refl, e)

neither : (a b : Bool) → (a || b) ≡ false → (a ≡ false) × (b ≡ false)
neither true b e = absurd (let z : ◌≡◌ {A = ℕ} 0 1 = cc in omega arith)
neither false b e = (refl, e)

-- a source that is not refused was read in full
read-whole : (r : Result (Outcome (Unit {0})) Refusal) (room : ℕ) → unread r room ≡ None → r ≡ Ok (ends (marks_by r) (well tt))
unfolding answer
read-whole (Err e) room p = absurd (let z : ◌≡◌ {A = ℕ} 0 1 = cc in omega arith)
read-whole (Ok o) room p = by (nat_le (length o.marks) room) o.ending refl p
  where
    by : (b : Bool) (x : Ending (Unit {0})) → o.ending ≡ x → result_err (cond b (ended (length o.marks) x) (Err MarksFull)) ≡ None → ◌≡◌ {A = Result (Outcome (Unit {0})) Refusal} (Ok o) (Ok (ends o.marks (well tt)))
    by true (well w) q r = ap (λ y. Ok (ends o.marks y)) q
    by true (fault k ch) q r = absurd (let z : ◌≡◌ {A = ℕ} 0 1 = cc in omega arith)
    by false x q r = absurd (let z : ◌≡◌ {A = ℕ} 0 1 = cc in omega arith)

-- a source that was read: of a legal document, at a place in it
pub record Read (mag : ℕ) (m : Meaning) (s : Source) (o : Outcome (Unit {0})) : Type 0 where
  pub document : Document
  pub is-legal : legal s.document ≡ Ok document
  pub mag-is : document.mag ≡ mag
  pub place : ℕ
  pub place-is : page_place s.document document s.page ≡ Some place
  pub outcome : o ≡ page_outcome m s.document document s.page place

pub was-read : (mag : ℕ) (m : Meaning) (s : Source) (o : Outcome (Unit {0})) → sourced mag m s ≡ Ok o → Read mag m s o
was-read mag m s o e = by (legal s.document) refl e
  where
    by : (r : Result Document Refusal) → legal s.document ≡ r → at_mag mag m s r ≡ Ok o → Read mag m s o
    by (Err k) q p = absurd (let z : ◌≡◌ {A = ℕ} 0 1 = cc in omega arith)
    by (Ok d) q p = tested (d.mag == mag) refl p
      where
        placed : (x : Option ℕ) → page_place s.document d s.page ≡ x → (d.mag == mag) ≡ true → ok_or (option_map (page_outcome m s.document d s.page) x) NoPage ≡ Ok o → Read mag m s o
        placed None y t z = absurd (let w : ◌≡◌ {A = ℕ} 0 1 = cc in omega arith)
        placed (Some a) y t z = record { document = d; is-legal = q; mag-is = grind arith; place = a; place-is = y; outcome = cc }

        tested : (b : Bool) → (d.mag == mag) ≡ b → cond b (page_reading m s.document d s.page) (Err OtherMag) ≡ Ok o → Read mag m s o
        tested true t z = placed (page_place s.document d s.page) refl t z
        tested false t z = absurd (let w : ◌≡◌ {A = ℕ} 0 1 = cc in omega arith)

module _ (mag : ℕ) (m : Meaning) (s : Source) (o : Outcome (Unit {0})) (e : sourced mag m s ≡ Ok o) where
  -- its ten counts are there
  pub counts-there : Counted (page_of mag m s)
  counts-there =
      let r = was-read mag m s o e in
      let long = page_stands s.document r.document s.page r.place r.is-legal r.place-is in
      let at : place_by s (legal s.document) ≡ r.place = ap (place_by s) r.is-legal ∙ ap (λ x. unwrap_or x 0) r.place-is in
      ap (λ a. length (counts_at s.document a)) at
      ∙ length-take-le 40 (drop (r.place + 1) s.document) (omega (arith, length-drop (r.place + 1) s.document))

  -- its marks are marks of the shelf
  pub good-marks : Lawful m → GoodPage m (page_of mag m s)
  unfolding page_outcome
  good-marks law =
      let r = was-read mag m s o e in
      let u = page_world m s.document r.document s.page in
      let g = good-run u 65536 law (let few = law.few in omega arith) (λ at. omega arith) (take r.document.post s.document) 0 (r.place + 45) (length (take r.document.post s.document) - (r.place + 45)) page_start in
      subst (λ (x : List Mark). AllByRecursion (GoodMark m.faces) x) (sym (ap marks_by e ∙ ap (λ (y : Outcome (Unit {0})). y.marks) r.outcome)) g.marks

module _ (m : Meaning) (o : Opening) where
  -- a source that a copy took
  pub record Taken (es : List Source) (s : Source) : Type 0 where
    pub read : sourced o.mag m s ≡ Ok (ends (page_of o.mag m s).marks (well tt))
    pub few-pairs : length (come_by m o (s ∷ es)).pairs ≤ 64
    pub few-pages : (come_by m o (s ∷ es)).count ≤ 65535
    pub short : closed_length (faces_of m) o (come_by m o (s ∷ es)) ≤ 16777216

  abbrev pub Kept : List Source → Type 0
  Kept [] = Unit {0}
  Kept (s ∷ es) = Taken es s × Kept es

  pub come_more : (es : List Source) (s : Source) → with_source m o (come_by m o es) s ≡ come_by m o (s ∷ es)
  unfolding progress
  come_more es s = refl

  pub fits_of : (F : ℕ → Facts) (g : Progress) (bytes : ℕ) → unfit F o g bytes ≡ None → closed_length F o g ≤ bytes
  fits_of F g bytes e = ltb-false bytes (closed_length F o g) (passed_test _ OutputFull None e).0

  -- what is not too much
  pub record Fits (F : ℕ → Facts) (g : Progress) (bytes : ℕ) : Type 0 where
    pub few-pairs : length g.pairs ≤ 64
    pub few-pages : g.count ≤ 65535
    pub short : closed_length F o g ≤ bytes

  pub fits_in : (F : ℕ → Facts) (g : Progress) (bytes : ℕ) → overfull F o g bytes ≡ None → Fits F g bytes
  fits_in F g bytes e =
      let p = passed_test (nat_lt 64 (length g.pairs)) PairsFull _ e in
      let q = passed_test (nat_lt 65535 g.count || nat_lt bytes (closed_length F o g)) OutputFull None p.1 in
      let b = neither (nat_lt 65535 g.count) (nat_lt bytes (closed_length F o g)) q.0 in
      record {
        few-pairs = ltb-false 64 (length g.pairs) p.0;
        few-pages = ltb-false 65535 g.count b.0;
        short = ltb-false bytes (closed_length F o g) b.1;
      }

  -- what a copy that is not refused came to
  pub fitted : (es : List Source) (s : Source) (marks room : ℕ) → copy_refusal m o (come_by m o es) s marks room ≡ None → (unread (sourced o.mag m s) marks ≡ None) × Fits (faces_of m) (come_by m o (s ∷ es)) (usable room)
  fitted es s marks room e =
      let g = come_by m o (s ∷ es) in
      let a = or_none (too_short (come_by m o es) room) _ e in
      let b = or_none (unread (sourced o.mag m s) marks) (overfull (faces_of m) o (with_source m o (come_by m o es) s) (usable room)) a.1 in
      (b.0, fits_in (faces_of m) g (usable room) (ap (λ x. overfull (faces_of m) o x (usable room)) (sym (come_more es s)) ∙ b.1))

  pub taken : (es : List Source) (s : Source) (marks room : ℕ) → copy_refusal m o (come_by m o es) s marks room ≡ None → Taken es s
  taken es s marks room e =
      let f = fitted es s marks room e in
      let short = f.1.short in
      record { read = read-whole (sourced o.mag m s) marks f.0; few-pairs = f.1.few-pairs; few-pages = f.1.few-pages; short = omega arith }

  pub all-counted : (es : List Source) → Kept es → AllByRecursion Counted (pages_of m o es)
  all-counted [] k = tt
  all-counted (s ∷ es) k = (counts-there o.mag m s _ k.0.read, all-counted es k.1)

  pub all_good : Lawful m → (es : List Source) → Kept es → AllByRecursion (GoodPage m) (pages_of m o es)
  all_good law [] k = tt
  all_good law (s ∷ es) k = (good-marks o.mag m s _ k.0.read law, all_good law es k.1)

  pairs-few : (es : List Source) → Kept es → length (come_by m o es).pairs ≤ 64
  unfolding progress
  pairs-few [] k = omega arith
  pairs-few (s ∷ es) k = k.0.few-pairs

  pages-few : (es : List Source) → Kept es → length (pages_of m o es) < 2 ^ 16
  pages-few [] k = omega arith
  pages-few (s ∷ es) k = let c = page-count (faces_of m) (pages_of m o (s ∷ es)) in let f = k.0.few-pages in omega (arith, f, c)

  pub closed-long : (es : List Source) → Kept es → length (closed (faces_of m) o (pages_of m o es)) ≡ closed_length (faces_of m) o (come_by m o es)
  unfolding closed
  closed-long es k =
      length-append (body (faces_of m) o.mag (pages_of m o es)) (closing_bytes (faces_of m) o (come_by m o es))
      ∙ ap (λ n. n + length (closing_bytes (faces_of m) o (come_by m o es))) (length-body (faces_of m) o.mag (pages_of m o es) (all-counted es k))

  -- what an opening takes from a document
  pub record Fitting : Type 0 where
    pub mag-least : 1 ≤ o.mag
    pub mag-most : o.mag ≤ 32768
    pub l-fits : o.l < 2 ^ 32
    pub u-fits : o.u < 2 ^ 32

  pub writable : Lawful m → Fitting → (es : List Source) → Kept es → closed_length (faces_of m) o (come_by m o es) ≤ 16777216 → Writable m o (pages_of m o es)
  writable law fit es k short =
      record {
        counted = all-counted es k;
        good = all_good law es k;
        few-pairs = pairs-few es k;
        few-pages = pages-few es k;
        mag-least = fit.mag-least;
        mag-most = fit.mag-most;
        l-fits = fit.l-fits;
        u-fits = fit.u-fits;
        short = subst (λ n. n ≤ 16777216) (sym (closed-long es k)) short;
      }
