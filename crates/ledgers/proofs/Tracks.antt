-- A run and its output are what the ledger of its calls says. Assumes nothing.
use Rattle.std.proofs.Common.{◌≡◌, ℕ, zero, suc, ◌+◌, ◌-◌, ◌^◌, ◌<◌, ◌≤◌, Bool, true, false, cond, ◌&&◌, List, [], ◌∷◌, ◌++◌, length, get_or, take, drop, min, Some, None, Ok, Err, Option, Result, sym, refl, ap, ◌∙◌, subst, arith, length-append, length-take, take-append-drop}
use Rattle.std.specs.Prelude.{nat_le, nat_lt, map, slice_index, ◌==◌}
use Rattle.std.specs.Option.{option_or}
use Rattle.std.specs.List.{AllByRecursion}
use Rattle.std.proofs.ByRecursion.{All-weaker}
use Rattle.std.proofs.lemmas.Bool.{leb-true, ltb-false, lt-ltb, le-ltb, le-leb, eq-eqb, ne_eqb}
use Rattle.std.proofs.lemmas.List.{length-take-le, take-take, take_at, length-map}
use Rattle.shelf.specs.declared.refusals.Refusal.{Refusal}
use Rattle.shelf.specs.declared.refusals.Refusal.TheVariants.{RunClosed, BadOutput, NothingToStrike, OutputFull}
use Rattle.shelf.specs.Meaning.{Meaning, Facts}
use Rattle.document.specs.declared.documents.Document.{Document}
use Rattle.document.specs.Bytes.{four, no_page}
use Rattle.document.specs.Legal.{legal}
use Rattle.copies.specs.declared.pairs.Pair.{Pair}
use Rattle.copies.specs.Marks.{faces_of}
use Rattle.copies.specs.Pages.{Page, Progress, page_bytes, with_page}
use Rattle.copies.specs.Files.{Opening, front_bytes, closed_length, closing_bytes, progress, body, closed, begun}
use Rattle.copies.specs.Writing.{overwritten}
use Rattle.pairs.specs.Tables.{defined_before}
use Rattle.readback.specs.Reading.{Counted}
use Rattle.readback.proofs.Pages.{length-body, length-page, page-count, page-used, used-least, page_places, progress_places}
use Rattle.readback.proofs.Pairs.{Between}
use Rattle.closedfiles.proofs.Chain.{page_stands, page-first, page_pointer, last_fits}
use Rattle.ledgers.specs.Sources.{Source, page_of}
use Rattle.ledgers.specs.Rules.{too_short, with_source, copy_refusal, strike_refusal, close_refusal}
use Rattle.ledgers.specs.Steps.{View, Act, copy, strike, close, Answer, done, long, refused, Seen, seen, unless, moved_on, is_pointer, pointer_back, without_last, struck_to, stepped, Begun, fresh, opening_by, beginning_by, beginning}
use Rattle.ledgers.specs.Ledgers.{Ledger, Call, pages_of, come_by, ruling, ruled, struck, booked, ledger, rulings}
use Rattle.ledgers.specs.Histories.{used, AreBytes, History, opened, called, moved, short}
use Rattle.ledgers.proofs.Documents.{Checked, checked, l-small}
use Rattle.ledgers.proofs.Kept.{or_none, passed_test, Taken, Kept, Fitting, taken, fitted, come_more, counts-there, all-counted, closed-long}
use Rattle.ledgers.proofs.Outputs.{length-overwritten, take-overwritten, forgotten-back}

module _ (m : Meaning) (o : Opening) where
  abbrev F : ℕ → Facts
  F = faces_of m

  abbrev come : List Source → Progress
  come es = come_by m o es

  abbrev bytes : List Source → List ℕ
  bytes es = body F o.mag (pages_of m o es)

  -- ---- what the ledger calls for

  abbrev stands : List Source → Bool → Option Progress
  stands es true = Some (come es)
  stands es false = None

  abbrev pub expected : Ledger → View
  expected b = record { means = m; opening = o; come = stands b.sources b.running }

  -- the output holds the bytes of these sources' pages
  pub record Holds (es : List Source) (out : List ℕ) : Type 0 where
    pub room : (come es).used ≤ length out
    pub held : take (come es).used out ≡ bytes es

  abbrev pub Has : List Source → Bool → List ℕ → Type 0
  Has es true out = Holds es out
  Has es false out = Unit {0}

  -- a step and the rules' answer agree
  pub record Agree (b : Ledger) (c : Act) (s : Seen) (a : Answer) : Type 0 where
    pub run : s.run ≡ expected (booked b c a)
    pub answer : s.answer ≡ a
    pub out : Has (booked b c a).sources (booked b c a).running s.out
    pub kept : Kept m o (booked b c a).sources

  abbrev running_on : List Source → Ledger
  running_on es = record { sources = es; running = true }

  refuses : (es : List Source) (c : Act) (out : List ℕ) (e : Refusal) → Kept m o es → Holds es out → Agree (running_on es) c (seen (expected (running_on es)) out (refused e)) (refused e)
  refuses es c out e k h = record { run = refl; answer = refl; out = h; kept = k }

  -- ---- lengths

  long-bytes : (es : List Source) → Kept m o es → length (bytes es) ≡ (come es).used
  long-bytes es k = length-body F o.mag (pages_of m o es) (all-counted m o es k)

  long-page : (es : List Source) (s : Source) → Taken m o es s → (come es).used + length (page_bytes F (come es) (page_of o.mag m s)) ≡ (come (s ∷ es)).used
  unfolding progress
  long-page es s t = length-page F (come es) (page_of o.mag m s) (counts-there o.mag m s _ t.read)

  used-more : (es : List Source) (s : Source) → (come es).used + 46 ≤ (come (s ∷ es)).used
  unfolding progress
  used-more es s = page-used F (come es) (page_of o.mag m s)

  used-small : (es : List Source) (s : Source) → Taken m o es s → (come (s ∷ es)).used < 2 ^ 32
  used-small es s t = let h = t.short in omega arith

  -- ---- copy

  copied : (es : List Source) (s : Source) (marks : ℕ) (out : List ℕ) → Kept m o es → Holds es out → Taken m o es s → (come (s ∷ es)).used ≤ length out
      → Agree (running_on es) (copy s marks) (seen (moved_on (expected (running_on es)) (Some (with_source m o (come es) s))) (overwritten (come es).used (page_bytes F (come es) (page_of o.mag m s)) out) done) done
  unfolding body
  copied es s marks out k h t room =
      let bs = page_bytes F (come es) (page_of o.mag m s) in
      let fits : (come es).used + length bs ≤ length out = omega (arith, long-page es s t) in
      record {
        run = ap (λ (g : Progress). moved_on (expected (running_on es)) (Some g)) (come_more m o es s);
        answer = refl;
        out = record {
          room = omega (arith, length-overwritten (come es).used bs out fits);
          held = take-overwritten (come es).used bs out fits (come (s ∷ es)).used (sym (long-page es s t)) ∙ ap (λ (x : List ℕ). x ++ bs) h.held;
        };
        kept = (t, k);
      }

  enough : (es : List Source) (s : Source) (marks room : ℕ) → copy_refusal m o (come es) s marks room ≡ None → (come (s ∷ es)).used ≤ room
  enough es s marks room e =
      let f = fitted m o es s marks room e in
      let short = f.1.short in
      omega (arith, short)

  copy-agrees : (es : List Source) (s : Source) (marks : ℕ) (out : List ℕ) → Kept m o es → Holds es out → Agree (running_on es) (copy s marks) (stepped (expected (running_on es)) (copy s marks) out) (ruled m o (running_on es) (copy s marks) (length out))
  copy-agrees es s marks out k h = by (copy_refusal m o (come es) s marks (length out)) refl
    where
      by : (r : Option Refusal) → copy_refusal m o (come es) s marks (length out) ≡ r → Agree (running_on es) (copy s marks) (unless (expected (running_on es)) out r (seen (moved_on (expected (running_on es)) (Some (with_source m o (come es) s))) (overwritten (come es).used (page_bytes F (come es) (page_of o.mag m s)) out) done)) (ruling done r)
      by (Some e) q = refuses es (copy s marks) out e k h
      by None q = copied es s marks out k h (taken m o es s marks (length out) q) (enough es s marks (length out) q)

  -- ---- close

  close-agrees : (es : List Source) (out : List ℕ) → Kept m o es → Holds es out → Agree (running_on es) close (stepped (expected (running_on es)) close out) (ruled m o (running_on es) close (length out))
  close-agrees es out k h = by (close_refusal F o (come es) (length out))
    where
      by : (r : Option Refusal) → Agree (running_on es) close (unless (expected (running_on es)) out r (seen (moved_on (expected (running_on es)) None) (overwritten (come es).used (closing_bytes F o (come es)) out) (long (closed_length F o (come es))))) (ruling (long (closed_length F o (come es))) r)
      by (Some e) = refuses es close out e k h
      by None = record { run = refl; answer = refl; out = tt; kept = k }

  -- ---- strike

  -- the last page stands in the output behind the others
  last-held : (es : List Source) (s : Source) (out : List ℕ) → Kept m o (s ∷ es) → Holds (s ∷ es) out → (rest : List ℕ) × (out ≡ bytes es ++ (page_bytes F (come es) (page_of o.mag m s) ++ rest)) × (drop (come es).used out ≡ page_bytes F (come es) (page_of o.mag m s) ++ rest)
  last-held es s out k h =
      let rest = drop (come (s ∷ es)).used out in
      let whole : out ≡ bytes (s ∷ es) ++ rest = sym (take-append-drop (come (s ∷ es)).used out) ∙ ap (λ x. x ++ rest) h.held in
      let p = page_stands F o.mag out (page_of o.mag m s) (pages_of m o es) rest (all-counted m o es k.1) whole in
      (rest, p.0, p.1)

  count-more : (es : List Source) → (come es).count ≡ length es
  count-more es = page-count F (pages_of m o es) ∙ length-map es (page_of o.mag m)

  last-more : (es : List Source) (s : Source) → (come (s ∷ es)).last ≡ (come es).used
  unfolding progress with_page
  last-more es s = refl

  last-none : (come []).last ≡ no_page
  unfolding progress
  last-none = refl

  pointer-fair : (es : List Source) (s : Source) → is_pointer (come (s ∷ es)) (come es).last ≡ true
  pointer-fair [] s =
      let one : ((come (s ∷ [])).count == 1) ≡ true = eq-eqb _ _ (count-more (s ∷ [])) in
      let none : ((come []).last == no_page) ≡ true = eq-eqb _ _ last-none in
      rw (one, none) refl
  pointer-fair (x ∷ es) s =
      let two : ((come (s ∷ x ∷ es)).count == 1) ≡ false = ne_eqb _ _ (λ e. omega (arith, e, count-more (s ∷ x ∷ es))) in
      let least = used-least F (pages_of m o es) in
      let more = used-more es x in
      let low : nat_le 15 (come (x ∷ es)).last ≡ true = le-leb _ _ (omega (arith, least, last-more es x)) in
      let high : nat_le ((come (x ∷ es)).last + 46) (come (s ∷ x ∷ es)).last ≡ true = le-leb _ _ (omega (arith, more, last-more es x, last-more (x ∷ es) s)) in
      rw (two, low, high) refl

  pointer-is : (es : List Source) (s : Source) (out : List ℕ) → Kept m o (s ∷ es) → Holds (s ∷ es) out → pointer_back (come (s ∷ es)) out ≡ Some (come es).last
  pointer-is es s out k h =
      let p = last-held es s out k h in
      let counted = counts-there o.mag m s _ k.0.read in
      let small = used-small es s k.0 in
      let before : (come es).used < 2 ^ 32 = omega (arith, used-more es s) in
      let bop = page-first F out (come es).used (come es) (page_of o.mag m s) p.0 counted p.2 in
      let pointer = page_pointer F out (come es).used (come es) (page_of o.mag m s) p.0 counted p.2 (last_fits F (pages_of m o es) before) in
      let here : (slice_index out (come (s ∷ es)).last == 139) ≡ true = eq-eqb _ _ (ap (λ a. slice_index out a) (last-more es s) ∙ bop) in
      let there : four out ((come (s ∷ es)).last + 41) ≡ (come es).last = ap (λ a. four out (a + 41)) (last-more es s) ∙ pointer in
      rw (here, there, pointer-fair es s) refl

  pairs-back : (es : List Source) (s : Source) → defined_before (come es).used (come (s ∷ es)).pairs ≡ (come es).pairs
  unfolding progress
  pairs-back es s =
      let g = page_places F (come es) (page_of o.mag m s) in
      ap (defined_before (come es).used) g.is
      ∙ forgotten-back (come es).used (come es).pairs g.more (progress_places F (pages_of m o es))
      (All-weaker (Between ((come es).used + 45) (with_page F (come es) (page_of o.mag m s)).used) (λ p. (come es).used ≤ p.place) (λ p b. omega (arith, b.0)) g.more g.each)

  come-back : (es : List Source) (s : Source) → without_last (come (s ∷ es)) (come es).last ≡ come es
  come-back es s =
      let u = last-more es s in
      let c : (come (s ∷ es)).count - 1 ≡ (come es).count = omega (arith, count-more (s ∷ es), count-more es) in
      let p : defined_before (come (s ∷ es)).last (come (s ∷ es)).pairs ≡ (come es).pairs = ap (λ n. defined_before n (come (s ∷ es)).pairs) u ∙ pairs-back es s in
      λ i. record { used = u i; last = (come es).last; count = c i; pairs = p i }

  front-held : (es : List Source) (s : Source) (out : List ℕ) → Kept m o (s ∷ es) → Holds (s ∷ es) out → Holds es out
  front-held es s out k h =
      let p = last-held es s out k h in
      let more = used-more es s in
      let room = h.room in
      record {
        room = omega arith;
        held = ap (take (come es).used) p.1 ∙ take_at (bytes es) (page_bytes F (come es) (page_of o.mag m s) ++ p.0) (come es).used (long-bytes es k.1);
      }

  strike-agrees : (es : List Source) (out : List ℕ) → Kept m o es → Holds es out → Agree (running_on es) strike (stepped (expected (running_on es)) strike out) (ruled m o (running_on es) strike (length out))
  strike-agrees [] out k h =
      let none : ((come []).count == 0) ≡ true = eq-eqb _ _ (count-more []) in
      rw none (refuses [] strike out NothingToStrike k h)
  strike-agrees (s ∷ es) out k h =
      let some : ((come (s ∷ es)).count == 0) ≡ false = ne_eqb _ _ (λ e. omega (arith, e, count-more (s ∷ es))) in
      let enough : nat_lt (length out) (come (s ∷ es)).used ≡ false = le-ltb _ _ h.room in
      rw (some, enough, pointer-is es s out k h)
      (record {
        run = ap (λ (g : Progress). moved_on (expected (running_on (s ∷ es))) (Some g)) (come-back es s);
        answer = refl;
        out = front-held es s out k h;
        kept = k.1;
      })

  -- ---- any call, with the run's bytes in the output

  pub agrees : (es : List Source) (r : Bool) (c : Act) (out : List ℕ) → Kept m o es → Has es r out → Agree (record { sources = es; running = r }) c (stepped (expected (record { sources = es; running = r })) c out) (ruled m o (record { sources = es; running = r }) c (length out))
  agrees es true (copy s marks) out k h = copy-agrees es s marks out k h
  agrees es true strike out k h = strike-agrees es out k h
  agrees es true close out k h = close-agrees es out k h
  agrees es false (copy s marks) out k h = record { run = refl; answer = refl; out = tt; kept = k }
  agrees es false strike out k h = record { run = refl; answer = refl; out = tt; kept = k }
  agrees es false close out k h = record { run = refl; answer = refl; out = tt; kept = k }

  -- ---- any call, with an output below the run's length

  pub record Passed (b : Ledger) (c : Act) (s : Seen) (a : Answer) : Type 0 where
    pub run : s.run ≡ expected b
    pub answer : s.answer ≡ a
    pub same : booked b c a ≡ b

  passes : (es : List Source) (r : Bool) (c : Act) (out : List ℕ) → length out < used (expected (record { sources = es; running = r })) → Passed (record { sources = es; running = r }) c (stepped (expected (record { sources = es; running = r })) c out) (ruled m o (record { sources = es; running = r }) c (length out))
  passes es true (copy s marks) out lt = let e : nat_lt (length out) (come es).used ≡ true = lt-ltb _ _ lt in rw e (record { run = refl; answer = refl; same = refl })
  passes [] true strike out lt =
      let none : ((come []).count == 0) ≡ true = eq-eqb _ _ (count-more []) in
      rw none (record { run = refl; answer = refl; same = refl })
  passes (s ∷ es) true strike out lt =
      let some : ((come (s ∷ es)).count == 0) ≡ false = ne_eqb _ _ (λ e. omega (arith, e, count-more (s ∷ es))) in
      let e : nat_lt (length out) (come (s ∷ es)).used ≡ true = lt-ltb _ _ lt in
      rw (some, e) (record { run = refl; answer = refl; same = refl })
  passes es true close out lt = let e : nat_lt (length out) (come es).used ≡ true = lt-ltb _ _ lt in rw e (record { run = refl; answer = refl; same = refl })
  passes es false c out lt = absurd (omega arith)

-- ---- whole histories

-- what a history leaves is what the ledger of its calls calls for
pub record Tracks (m : Meaning) (o : Opening) (cs : List Call) (as' : List Answer) (v : View) (out : List ℕ) : Type 0 where
  pub run : v ≡ expected m o (ledger m o cs)
  pub answers : as' ≡ rulings m o cs
  pub has : Has m o (ledger m o cs).sources (ledger m o cs).running out
  pub kept : Kept m o (ledger m o cs).sources
  pub fitting : Fitting m o

module _ (m : Meaning) (o : Opening) where
  -- the opening
  abbrev Starts : Begun → Type 0
  Starts b = (v : View) → b.run ≡ Ok v → (v ≡ fresh m o) × Holds m o [] b.out

  front_held : (out : List ℕ) → nat_lt (length out) 56 ≡ false → Holds m o [] (overwritten 0 (front_bytes o.mag) out)
  unfolding progress body front_bytes
  front_held out e =
      let long = ltb-false (length out) 56 e in
      record {
        room = omega (arith, length-overwritten 0 (front_bytes o.mag) out (omega arith));
        held = take-overwritten 0 (front_bytes o.mag) out (omega arith) 15 refl;
      }

  starts : (document out : List ℕ) (d : Document) → legal document ≡ Ok d → opening_by d ≡ o → Starts (beginning m document out)
  starts document out d e q v p =
      by (nat_lt (length out) 56) refl (ap (λ x. (beginning_by m out x).run) (sym e) ∙ p)
    where
      by : (b : Bool) → nat_lt (length out) 56 ≡ b → (cond {A = Begun} b (record { run = Err OutputFull; out = out }) (record { run = Ok (fresh m (opening_by d)); out = overwritten 0 (front_bytes d.mag) out })).run ≡ Ok v → (v ≡ fresh m o) × Holds m o [] (beginning m document out).out
      by true t r = absurd (let z : ◌≡◌ {A = ℕ} 0 1 = cc in omega arith)
      by false t r =
          let is : v ≡ fresh m (opening_by d) = cc in
          let left : (beginning m document out).out ≡ overwritten 0 (front_bytes o.mag) out =
          ap (λ x. (beginning_by m out x).out) e ∙ rw t (ap (λ (x : Opening). overwritten 0 (front_bytes x.mag) out) q) in
          (is ∙ ap (fresh m) q, subst (λ x. Holds m o [] x) (sym left) (front_held out t))

  fitting_of : (document : List ℕ) (d : Document) → AreBytes document → legal document ≡ Ok d → opening_by d ≡ o → Fitting m o
  fitting_of document d are e q =
      let c = checked document d e in
      let s = l-small document d are e in
      subst (λ (x : Opening). Fitting m x) q (record { mag-least = c.mag-least; mag-most = c.mag-most; l-fits = s.0; u-fits = s.1 })

  -- another output with the same bytes of the run
  moved-has : (es : List Source) (r : Bool) (v : View) (out other : List ℕ) → v ≡ expected m o (record { sources = es; running = r }) → Has m o es r out → used v ≤ length other → take (used v) other ≡ take (used v) out → Has m o es r other
  moved-has es true v out other e h le same =
      let u : used v ≡ (come_by m o es).used = ap used e in
      record {
        room = omega (arith, u);
        held = ap (λ n. take n other) (sym u) ∙ same ∙ ap (λ n. take n out) u ∙ h.held;
      }
  moved-has es false v out other e h le same = tt

  fresh-is : fresh m o ≡ expected m o (record { sources = []; running = true })
  unfolding progress
  fresh-is = refl

  pub tracks : {cs : List Call} {as' : List Answer} {v : View} {out : List ℕ} → History m o cs as' v out → Tracks m o cs as' v out
  unfolding ledger rulings
  tracks (opened document out d v are e q p) =
      let s = starts document out d e q v p in
      record { run = s.0 ∙ fresh-is; answers = refl; has = s.1; kept = tt; fitting = fitting_of document d are e q }
  tracks (called {cs = cs} {v = v} {out = out} h c) =
      let t = tracks h in
      let b = ledger m o cs in
      let a : Agree m o b c (stepped v c out) (ruled m o b c (length out)) = rw t.run (agrees m o b.sources b.running c out t.kept t.has) in
      record { run = a.run; answers = λ i. a.answer i ∷ t.answers i; has = a.out; kept = a.kept; fitting = t.fitting }
  tracks (moved {cs = cs} {v = v} {out = out} h other le e) =
      let t = tracks h in
      let b = ledger m o cs in
      record { run = t.run; answers = t.answers; has = moved-has b.sources b.running v out other t.run t.has le e; kept = t.kept; fitting = t.fitting }
  tracks (short {cs = cs} {v = v} {out = out} h other lt c) =
      let t = tracks h in
      let b = ledger m o cs in
      let less : length other < used (expected m o b) = subst (λ w. length other < used w) t.run lt in
      let a : Passed m o b c (stepped v c other) (ruled m o b c (length other)) = rw t.run (passes m o b.sources b.running c other less) in
      record {
        run = a.run ∙ ap (expected m o) (sym a.same);
        answers = λ i. a.answer i ∷ t.answers i;
        has = subst (λ (x : Ledger). Has m o x.sources x.running out) (sym a.same) t.has;
        kept = subst (λ (x : Ledger). Kept m o x.sources) (sym a.same) t.kept;
        fitting = t.fitting;
      }
