-- Runs on a course: what the calls leave. Assumes nothing.
use Rattle.std.proofs.Common.{◌≡◌, ℕ, ◌+◌, ◌≤◌, Bool, true, false, List, [], ◌∷◌, length, take, Ok, Err, Result, sym, refl, ap, ◌∙◌, subst, arith, add-one}
use Rattle.std.specs.Prelude.{IfOk}
use Rattle.std.proofs.lemmas.List.{take-take}
use Rattle.shelf.specs.declared.refusals.Refusal.{Refusal}
use Rattle.shelf.specs.Laws.{Lawful}
use Rattle.shelf.specs.Meaning.{Meaning}
use Rattle.document.specs.declared.documents.Document.{Document}
use Rattle.document.specs.Legal.{legal}
use Rattle.copies.specs.Files.{Opening}
use Rattle.ledgers.specs.Sources.{Source}
use Rattle.ledgers.specs.Steps.{View, Act, copy, Answer, done, refused, Seen, seen, stepped, Begun, opening_by, beginning_by, beginning}
use Rattle.ledgers.specs.Ledgers.{Ledger, Call, ruled, booked, ledger, rulings}
use Rattle.ledgers.specs.Histories.{used, AreBytes, History, opened, called, moved, ClosedFile, Faithful}
use Rattle.ledgers.proofs.Tracks.{expected, Has, tracks}
use Rattle.runs.specs.declared.runs.Run.{Run}
use Rattle.runs.specs.Views.{begun, lengthened, said, view_of}
use Rattle.copying.specs.Copied.{Copied, Course, GoesOn, LastRefused, Started, sources}

module _ (m : Meaning) (o : Opening) where
  step : {cs : List Call} {as' : List Answer} {v : View} {out : List ℕ} → History m o cs as' v out → (c : Act) (v2 : View) (out2 : List ℕ) (a : Answer) → seen v2 out2 a ≡ stepped v c out
      → History m o (record { act = c; room = length out } ∷ cs) (a ∷ as') v2 out2
  step {cs = cs} {as' = as'} {out = out} h c v2 out2 a e =
      subst (λ (x : Seen). History m o (record { act = c; room = length out } ∷ cs) (x.answer ∷ as') x.run x.out) (sym e) (called h c)

  -- the ledger goes by the last answer
  ledger-by : (k : Call) (cs : List Call) (a : Answer) (as' : List Answer) (v : View) (out : List ℕ) → History m o (k ∷ cs) (a ∷ as') v out → ledger m o (k ∷ cs) ≡ booked (ledger m o cs) k.act a
  unfolding ledger rulings
  ledger-by k cs a as' v out h =
      let t = tracks m o h in
      let answers = t.answers in
      let is : a ≡ ruled m o (ledger m o cs) k.act k.room = cc in
      ap (booked (ledger m o cs) k.act) (sym is)

  module _ (es : List Source) (v v2 : View) (out out2 : List ℕ) (course : Course m o es v out) where
    module _ (s : Source) (marks : ℕ) where
      -- an accepted copy takes its source
      pub copy-done : seen v2 out2 done ≡ stepped v (copy s marks) out → Course m o (s ∷ es) v2 out2
      copy-done e =
          let k : Call = record { act = copy s marks; room = length out } in
          let h = step course.history (copy s marks) v2 out2 done e in
          record {
            calls = k ∷ course.calls;
            answers = done ∷ course.answers;
            history = h;
            sources-are = ap (λ (b : Ledger). b.sources) (ledger-by k course.calls done course.answers v2 out2 h) ∙ ap (λ xs. s ∷ xs) course.sources-are;
          }

      -- a refused one none
      pub copy-refused : (e : Refusal) → seen v2 out2 (refused e) ≡ stepped v (copy s marks) out → (next : Course m o es v2 out2) × LastRefused e next.answers
      copy-refused x e =
          let k : Call = record { act = copy s marks; room = length out } in
          let h = step course.history (copy s marks) v2 out2 (refused x) e in (
            record {
              calls = k ∷ course.calls;
              answers = refused x ∷ course.answers;
              history = h;
              sources-are = ap (λ (b : Ledger). b.sources) (ledger-by k course.calls (refused x) course.answers v2 out2 h) ∙ course.sources-are;
            },
            (course.answers, refl),
          )

    -- and so by what a copy says
    pub copies : (s : Source) (marks : ℕ) (r : Result (Unit {0}) Refusal) → seen v2 out2 (said r) ≡ stepped v (copy s marks) out → GoesOn m o es s v2 out2 r
    copies s marks (Ok u) e = copy-done s marks e
    copies s marks (Err x) e = copy-refused s marks x e

    -- a closed file is that of the sources
    pub closes : Lawful m → (r : Result ℕ Refusal) → Faithful v out out2 (lengthened r) → IfOk r (λ n. ClosedFile m o es (take n out2))
    closes law (Ok n) f = subst (λ (xs : List Source). ClosedFile m o xs (take n out2)) course.sources-are ((f m law o course.calls course.answers course.history).file n refl)
    closes law (Err x) f = tt

  -- a refused page leaves the course
  pub refused-on : (es : List Source) (s : Source) (v : View) (out : List ℕ) (r : Result (Unit {0}) Refusal) (e : Refusal) → GoesOn m o es s v out r → r ≡ Err e → Course m o es v out
  refused-on es s v out (Err x) e goes is = goes.0
  refused-on es s v out (Ok u) e goes is = absurd (let z : ◌≡◌ {A = ℕ} 0 1 = cc in omega arith)

  -- the run's bytes lie in its output
  within_by : (es : List Source) (r : Bool) (out : List ℕ) → Has m o es r out → used (expected m o (record { sources = es; running = r })) ≤ length out
  within_by es true out h = h.room
  within_by es false out h = omega arith

  within : (cs : List Call) (as' : List Answer) (v : View) (out : List ℕ) → History m o cs as' v out → used v ≤ length out
  within cs as' v out h =
      let t = tracks m o h in
      subst (λ (w : View). used w ≤ length out) (sym t.run) (within_by (ledger m o cs).sources (ledger m o cs).running out t.has)

  -- an output that grows is another with the same bytes in front
  pub grown : (es : List Source) (v : View) (out other : List ℕ) → Course m o es v out → length out ≤ length other → take (length out) other ≡ out → Course m o es v other
  grown es v out other course longer same =
      let inside = within course.calls course.answers v out course.history in
      record {
        calls = course.calls;
        answers = course.answers;
        history = moved course.history other (omega arith) (sym (take-take (used v) (length out) other inside) ∙ ap (take (used v)) same);
        sources-are = course.sources-are;
      }

none-yet : (m : Meaning) (o : Opening) → (ledger m o []).sources ≡ []
unfolding ledger
none-yet m o = refl

-- a page more is taken
pub one-more : (m : Meaning) (document : List ℕ) (first k page : ℕ) (v v2 : View) (out out2 : List ℕ) (r : Result (Unit {0}) Refusal) (u : Unit {0}) (started : Started m document (sources document first k) v out)
    → GoesOn m (opening_by started.stated) (sources document first k) (record { document = document; page = page }) v2 out2 r → r ≡ Ok u → page ≡ first + k → Started m document (sources document first (k + 1)) v2 out2
one-more m document first k page v v2 out out2 r u started goes is at =
    let here : Course m (opening_by started.stated) (record { document = document; page = page } ∷ sources document first k) v2 out2 = subst (GoesOn m (opening_by started.stated) (sources document first k) (record { document = document; page = page }) v2 out2) is goes in
    record {
      stated = started.stated;
      judged = started.judged;
      course = subst (λ (n : ℕ). Course m (opening_by started.stated) (sources document first n) v2 out2) (sym (add-one k)) (subst (λ (n : ℕ). Course m (opening_by started.stated) (record { document = document; page = n } ∷ sources document first k) v2 out2) at here);
    }

-- a closed file is the copy of the pages that were taken
pub copied : (m : Meaning) (document : List ℕ) (first count k : ℕ) (v : View) (out file : List ℕ) (started : Started m document (sources document first k) v out) → ClosedFile m (opening_by started.stated) (sources document first k) file → k ≡ count → Copied m document first count file
copied m document first count k v out file started closed all =
    record {
      stated = started.stated;
      judged = started.judged;
      closed-file = subst (λ (n : ℕ). ClosedFile m (opening_by started.stated) (sources document first n) file) all closed;
    }

pub starts : (m : Meaning) (document out : List ℕ) (v : View) (out2 : List ℕ) → AreBytes document → ◌≡◌ {A = Begun} (record { run = Ok v; out = out2 }) (beginning m document out) → Started m document [] v out2
starts m document out v out2 are e = by (legal document) refl
  where
    run-is : (beginning m document out).run ≡ Ok v
    run-is = ap (λ (b : Begun). b.run) (sym e)

    by : (r : Result Document Refusal) → legal document ≡ r → Started m document [] v out2
    by (Err x) q = absurd (let z : ◌≡◌ {A = Result View Refusal} (Err x) (Ok v) = ap (λ r. (beginning_by m out r).run) (sym q) ∙ run-is in let y : ◌≡◌ {A = ℕ} 0 1 = cc in omega arith)
    by (Ok d) q =
        record {
          stated = d;
          judged = q;
          course = record {
            calls = [];
            answers = [];
            history = subst (λ (xs : List ℕ). History m (opening_by d) [] [] v xs) (ap (λ (b : Begun). b.out) (sym e)) (opened document out d v are q refl run-is);
            sources-are = none-yet m (opening_by d);
          };
        }

pub opens : {S : Type 0} (means : S → Meaning) (m : Meaning) (document out : List ℕ) (r : Result (Run S) Refusal) (out2 : List ℕ) → AreBytes document → begun means r out2 ≡ beginning m document out → IfOk r (λ run. Started m document [] (view_of means run) out2)
opens means m document out (Ok run) out2 are e = starts m document out (view_of means run) out2 are e
opens means m document out (Err x) out2 are e = tt
