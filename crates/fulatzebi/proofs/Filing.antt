-- An accepted copy's output is the closed file of its sources. Assumes nothing.
use Rattle.std.proofs.Common.{◌≡◌, ℕ, ◌+◌, Bool, true, false, cond, List, [], ◌∷◌, length, take, Some, None, Ok, Err, Option, Result, sym, refl, ap, subst, ◌∙◌, arith}
use Rattle.std.specs.Prelude.{nat_le, nat_lt}
use Rattle.shelf.specs.declared.refusals.Refusal.{Refusal}
use Rattle.shelf.specs.declared.refusals.Refusal.TheVariants.{OutputFull}
use Rattle.shelf.specs.Laws.{Lawful}
use Rattle.shelf.specs.Meaning.{Meaning}
use Rattle.tfm.specs.Making.{slice}
use Rattle.document.specs.declared.documents.Document.{Document}
use Rattle.document.specs.Legal.{legal}
use Rattle.copies.specs.Files.{Opening, front_bytes}
use Rattle.copies.specs.Writing.{overwritten}
use Rattle.ledgers.specs.Histories.{AreBytes, ClosedFile, History, opened, called}
use Rattle.ledgers.specs.Ledgers.{Call, Ledger, booked, ledger, ruled, rulings, ruling}
use Rattle.ledgers.specs.Lists.{read_at}
use Rattle.ledgers.specs.Sources.{Source}
use Rattle.ledgers.specs.Steps.{Answer as Said, Begun, Seen, View, beginning, beginning_by, close, copy, done, fresh, long, opening_by, refused as denied, stepped}
use Rattle.ledgers.proofs.Law.{faithful}
use Rattle.fulatzebi.specs.declared.records.LinkRecord.{LinkRecord}
use Rattle.fulatzebi.specs.declared.records.SourceRecord.{SourceRecord}
use Rattle.fulatzebi.specs.declared.stops.Why.TheVariants.{BadRecord, Refused}
use Rattle.fulatzebi.specs.Flat.{Flat, closed_by, copied_by, copied_from, flat, flat_by, links_after, onward}
use Rattle.fulatzebi.specs.Law.{Filed, listed, named}
use Rattle.fulatzebi.proofs.Nonzero.{nonzero}

-- what a call of a run is never answered
never_done : (q : Option Refusal) (n : ℕ) → ruling (long n) q ≡ done → ⊥
never_done None n p = absurd (let z : ◌≡◌ {A = ℕ} 0 1 = cc in omega arith)
never_done (Some e) n p = absurd (let z : ◌≡◌ {A = ℕ} 0 1 = cc in omega arith)

never_long : (q : Option Refusal) (n : ℕ) → ruling done q ≡ long n → ⊥
never_long None n p = absurd (let z : ◌≡◌ {A = ℕ} 0 1 = cc in omega arith)
never_long (Some e) n p = absurd (let z : ◌≡◌ {A = ℕ} 0 1 = cc in omega arith)

module _ (docs : List ℕ) (room : ℕ) (links : List LinkRecord) (m : Meaning) (law : Lawful m) (o : Opening) where
  abbrev open_with : List Source → Ledger
  open_with es = record { sources = es; running = true }

  close_done : (es : List Source) (n : ℕ) → ruled m o (open_with es) close n ≡ done → ⊥
  close_done es n p = never_done _ _ p

  copy_long : (es : List Source) (s : Source) (n k : ℕ) → ruled m o (open_with es) (copy s room) n ≡ long k → ⊥
  copy_long es s n k p = never_long _ k p

  closing : (v : View) (out : List ℕ) (cs : List Call) (as' : List Said) → History m o cs as' v out → (es : List Source) → ledger m o cs ≡ open_with es → (f : Flat) (a : Said) → (stepped v close out).answer ≡ a → f ≡ closed_by links (stepped v close out).out a → f.answer.number ≡ 0
      → ClosedFile m o es (take f.answer.length f.out)
  closing v out cs as' h es l f (denied e) q p n = absurd (nonzero (Refused e) (ap (λ (x : Flat). x.answer.number) (sym p) ∙ n))
  closing v out cs as' h es l f done q p n =
      let t = faithful v out (stepped v close out).out (stepped v close out).answer refl refl m law o cs as' h in
      absurd (close_done es (length out) (sym (ap (λ b. ruled m o b close (length out)) l) ∙ sym t.answer ∙ q))
  closing v out cs as' h es l f (long k) q p n =
      let t = faithful v out (stepped v close out).out (stepped v close out).answer refl refl m law o cs as' h in
      let file = subst (λ b. ClosedFile m o b.sources (take k (stepped v close out).out)) l (t.file k q) in
      subst (λ (x : Flat). ClosedFile m o es (take x.answer.length x.out)) (sym p) file

  -- an answer of a copy is the one that the ledger gives
  module _ (v : View) (out : List ℕ) (cs : List Call) (as' : List Said) (h : History m o cs as' v out) (es : List Source) (l : ledger m o cs ≡ open_with es) (s : Source) where
    abbrev step : Seen
    step = stepped v (copy s room) out

    abbrev call : Call
    call = record { act = copy s room; room = length out }

    abbrev onward_history : History m o (call ∷ cs) (step.answer ∷ as') step.run step.out
    onward_history = called h (copy s room)

    ruled_so : step.answer ≡ ruled m o (open_with es) (copy s room) (length out)
    unfolding rulings
    ruled_so =
        let t = faithful step.run step.out (stepped step.run close step.out).out (stepped step.run close step.out).answer refl refl m law o (call ∷ cs) (step.answer ∷ as') onward_history in
        let e = t.answers in
        let head : step.answer ≡ ruled m o (ledger m o cs) (copy s room) (length out) = cc in
        head ∙ ap (λ b. ruled m o b (copy s room) (length out)) l

    booked_so : step.answer ≡ done → ledger m o (call ∷ cs) ≡ open_with (s ∷ es)
    unfolding ledger
    booked_so q =
        ap (λ b. booked b (copy s room) (ruled m o b (copy s room) (length out))) l
        ∙ ap (booked (open_with es) (copy s room)) (sym ruled_so ∙ q)

  abbrev next : List SourceRecord → ℕ → View → List ℕ → Flat
  next ss k v' out' = copied_from docs room links (k + 1) ss v' out'

  -- a source more, if the others go on as they should
  module _ (ss : List SourceRecord) (k : ℕ) (v : View) (out : List ℕ) (cs : List Call) (as' : List Said) (h : History m o cs as' v out) (es : List Source) (l : ledger m o cs ≡ open_with es) (f : Flat) (n : f.answer.number ≡ 0) (s : SourceRecord) where
    abbrev src : Source
    src = named docs s

    abbrev seen_so : Seen
    seen_so = step v out cs as' h es l src

    abbrev Goal : Type 0
    Goal = ClosedFile m o (listed docs (src ∷ es) ss) (take f.answer.length f.out)

    on : (seen_so.answer ≡ done → f ≡ next ss k seen_so.run seen_so.out → Goal) → (a : Said) → seen_so.answer ≡ a → f ≡ onward k links (links_after (read_at v src (length out)) room links) seen_so a (next ss k) → Goal
    on rec (denied e) q r = absurd (nonzero (Refused e) (ap (λ (x : Flat). x.answer.number) (sym r) ∙ n))
    on rec (long j) q r = absurd (copy_long es src (length out) j (sym (ruled_so v out cs as' h es l src) ∙ q))
    on rec done q r = rec q r

    by : (seen_so.answer ≡ done → f ≡ next ss k seen_so.run seen_so.out → Goal) → (b : Bool) → f ≡ copied_by v k links out room (cond b (Some (slice docs s.place s.length)) None) s.page (next ss k) → Goal
    by rec false r = absurd (nonzero BadRecord (ap (λ (x : Flat). x.answer.number) (sym r) ∙ n))
    by rec true r = on rec seen_so.answer refl r

    one_more : (seen_so.answer ≡ done → f ≡ next ss k seen_so.run seen_so.out → Goal) → f ≡ copied_from docs room links k (s ∷ ss) v out → ClosedFile m o (listed docs es (s ∷ ss)) (take f.answer.length f.out)
    unfolding copied_from listed
    one_more rec p = by rec (nat_le (s.place + s.length) (length docs)) p

  going : (ss : List SourceRecord) (k : ℕ) (v : View) (out : List ℕ) (cs : List Call) (as' : List Said) → History m o cs as' v out → (es : List Source) → ledger m o cs ≡ open_with es → (f : Flat) → f ≡ copied_from docs room links k ss v out → f.answer.number ≡ 0
      → ClosedFile m o (listed docs es ss) (take f.answer.length f.out)
  unfolding copied_from listed
  going [] k v out cs as' h es l f p n = closing v out cs as' h es l f (stepped v close out).answer refl p n
  going (s ∷ ss) k v out cs as' h es l f p n =
      let src = named docs s in
      one_more ss k v out cs as' h es l f n s (λ q r. going ss (k + 1) (step v out cs as' h es l src).run (step v out cs as' h es l src).out (call v out cs as' h es l src ∷ cs) ((step v out cs as' h es l src).answer ∷ as') (onward_history v out cs as' h es l src) (src ∷ es) (booked_so v out cs as' h es l src q) f r n) p

abbrev from : Meaning → List ℕ → List SourceRecord → ℕ → List LinkRecord → List ℕ → Result Document Refusal → Flat
from m docs ss room links first r = flat_by docs room links ss (beginning_by m first r).out (beginning_by m first r).run

pub filed : (m : Meaning) → Lawful m → (opening docs : List ℕ) (ss : List SourceRecord) (room : ℕ) (links : List LinkRecord) (first : List ℕ) (f : Flat) → AreBytes opening → f ≡ flat m opening docs ss room links first → f.answer.number ≡ 0 → Filed m opening docs ss (take f.answer.length f.out)
unfolding ledger
filed m law opening docs ss room links first f ab p n = by (legal opening) refl
  where
    with_room : (d : Document) → legal opening ≡ Ok d → (t : Bool) → nat_lt (length first) 56 ≡ t → f ≡ from m docs ss room links first (Ok d) → Filed m opening docs ss (take f.answer.length f.out)
    with_room d le true te q =
        let short : beginning_by m first (Ok d) ≡ record { run = Err OutputFull; out = first } = ap (λ b. cond b (record { run = Err OutputFull; out = first }) (record { run = Ok (fresh m (opening_by d)); out = overwritten 0 (front_bytes d.mag) first })) te in
        absurd (nonzero (Refused OutputFull) (ap (λ (x : Flat). x.answer.number) (sym (q ∙ ap (λ (b : Begun). flat_by docs room links ss b.out b.run) short)) ∙ n))
    with_room d le false te q =
        let o = opening_by d in
        let v = fresh m o in
        let out = overwritten 0 (front_bytes d.mag) first in
        let begun : beginning_by m first (Ok d) ≡ record { run = Ok v; out = out } = ap (λ b. cond b (record { run = Err OutputFull; out = first }) (record { run = Ok v; out = out })) te in
        let whole : beginning m opening first ≡ record { run = Ok v; out = out } = ap (beginning_by m first) le ∙ begun in
        let h0 = opened opening first d v ab le refl (ap (λ (b : Begun). b.run) whole) in
        let h = subst (λ x. History m o [] [] v x) (ap (λ (b : Begun). b.out) whole) h0 in
        record {
          stated = d;
          is-legal = le;
          closed = going docs room links m law o ss 0 v out [] [] h [] refl f (q ∙ ap (λ (b : Begun). flat_by docs room links ss b.out b.run) begun) n;
        }

    by : (r : Result Document Refusal) → legal opening ≡ r → Filed m opening docs ss (take f.answer.length f.out)
    by (Err e) le = absurd (nonzero (Refused e) (ap (λ (x : Flat). x.answer.number) (sym (p ∙ ap (from m docs ss room links first) le)) ∙ n))
    by (Ok d) le = with_room d le (nat_lt (length first) 56) refl (p ∙ ap (from m docs ss room links first) le)
