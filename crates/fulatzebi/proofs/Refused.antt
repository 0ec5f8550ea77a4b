-- What a refused copy hands on of its chain list. Assumes nothing.
use Rattle.std.proofs.Common.{◌≡◌, ℕ, Bool, true, false, cond, List, map, length, take, Some, None, Ok, Err, Option, Result, sym, refl, ap, ◌∙◌, arith}
use Rattle.std.specs.Prelude.{nat_lt, ◌==◌, ◌||◌}
use Rattle.std.specs.Option.{option_or, unwrap_or}
use Rattle.std.specs.Result.{result_err, result_ok}
use Rattle.shelf.specs.declared.marks.Link.{Link}
use Rattle.shelf.specs.declared.refusals.Refusal.{Refusal}
use Rattle.shelf.specs.declared.refusals.Refusal.TheVariants.{BadOutput, OtherMag, OutputFull, PairsFull, RunClosed}
use Rattle.shelf.specs.Answers.{answer, linked, overlay}
use Rattle.shelf.specs.Meaning.{Meaning, Facts}
use Rattle.shelf.specs.Outcomes.{Outcome}
use Rattle.shelf.specs.Refusals.{returned}
use Rattle.document.specs.declared.documents.Document.{Document}
use Rattle.document.specs.Legal.{legal}
use Rattle.reading.specs.Reading.{page_reading}
use Rattle.copies.specs.Files.{Opening, closed_length}
use Rattle.copies.specs.Limits.{overfull, usable}
use Rattle.copies.specs.Marks.{faces_of}
use Rattle.copies.specs.Pages.{Progress, page_bytes}
use Rattle.copies.specs.Writing.{overwritten}
use Rattle.ledgers.specs.Lists.{chained, read_at, read_by}
use Rattle.ledgers.specs.Rules.{copy_refusal, with_source}
use Rattle.ledgers.specs.Sources.{Source, at_mag, page_of, sourced, unread}
use Rattle.ledgers.specs.Steps.{Seen, View, copy, done, moved_on, refused as denied, seen, stepped, stepped_by, unless}
use Rattle.fulatzebi.specs.declared.records.LinkRecord.{LinkRecord}
use Rattle.fulatzebi.specs.Flat.{links_after}
use Rattle.fulatzebi.specs.Records.{link_record}
use Rattle.fulatzebi.proofs.Linkless.{Linkless, legal_linkless, page_linkless}
use Rattle.fulatzebi.proofs.Telling.{outcome_passed, passed}

sourced_linkless : (mag : ℕ) (m : Meaning) (s : Source) → Linkless (sourced mag m s)
sourced_linkless mag m s = by (legal s.document) (legal_linkless s.document)
  where
    by : (r : Result Document Refusal) → Linkless r → Linkless (at_mag mag m s r)
    by (Err e) l = l
    by (Ok d) l = if_mag (d.mag == mag)
      where
        if_mag : (b : Bool) → Linkless (cond b (page_reading m s.document d s.page) (Err OtherMag))
        if_mag true = page_linkless m s.document d s.page
        if_mag false = refl

-- a refusal, if it is one, that returns no chain
abbrev Chainless : Option Refusal → Type 0
Chainless None = Unit {0}
Chainless (Some e) = (returned e).links ≡ None

overfull_chainless : (F : ℕ → Facts) (o : Opening) (g : Progress) (n : ℕ) → Chainless (overfull F o g n)
overfull_chainless F o g n = by (nat_lt 64 (length g.pairs)) (nat_lt 65535 g.count || nat_lt n (closed_length F o g))
  where
    by : (a b : Bool) → Chainless (cond a (Some PairsFull) (cond b (Some OutputFull) None))
    by true b = refl
    by false true = refl
    by false false = tt

module _ (links : List LinkRecord) (chain : List Link) (long : length chain ≡ length links) (room : ℕ) where
  -- what is handed on of the chain list that a refused copy left
  abbrev Goal : Refusal → Option (Outcome (Unit {0})) → Type 0
  Goal e r = overlay (map link_record (take (unwrap_or (returned e).links 0) (chained r room chain))) links ≡ links_after r room links

  none : (e : Refusal) (ch : List Link) → (returned e).links ≡ None → overlay (map link_record (take (unwrap_or (returned e).links 0) ch)) links ≡ links
  none e ch l = ap (λ n. overlay (map link_record (take (unwrap_or n 0) ch)) links) l

  by_answer : (o : Outcome (Unit {0})) (full : Option Refusal) (e : Refusal) → Chainless full → (a : Result (ℕ × Unit {0}) Refusal) → answer o room ≡ a → option_or (result_err a) full ≡ Some e → Goal e (Some o)
  by_answer o full e c (Err y) q p =
      let same : y ≡ e = cc in
      ap (λ x. overlay (map link_record (take (unwrap_or (returned x).links 0) (linked o room chain))) links) (sym same)
      ∙ ap (λ (a : Result (ℕ × Unit {0}) Refusal). passed a (linked o room chain) links) (sym q)
      ∙ outcome_passed links chain long o room
  by_answer o (Some x) e c (Ok w) q p =
      let same : x ≡ e = cc in
      none e (linked o room chain) (ap (λ y. (returned y).links) (sym same) ∙ c)
      ∙ ap (λ (a : Result (ℕ × Unit {0}) Refusal). passed a (linked o room chain) links) (sym q)
      ∙ outcome_passed links chain long o room
  by_answer o None e c (Ok w) q p = absurd (let z : ◌≡◌ {A = ℕ} 0 1 = cc in omega arith)

  by_source : (r : Result (Outcome (Unit {0})) Refusal) (full : Option Refusal) (e : Refusal) → Linkless r → Chainless full → option_or (unread r room) full ≡ Some e → Goal e (result_ok r)
  by_source (Err x) full e l c p =
      let same : x ≡ e = cc in
      none e chain (ap (λ y. (returned y).links) (sym same) ∙ l)
  by_source (Ok o) full e l c p = by_answer o full e c (answer o room) refl p

  by_room : (t : Bool) (r : Result (Outcome (Unit {0})) Refusal) (full : Option Refusal) (e : Refusal) → Linkless r → Chainless full → option_or (cond t (Some BadOutput) None) (option_or (unread r room) full) ≡ Some e → Goal e (cond t None (result_ok r))
  by_room true r full e l c p =
      let same : BadOutput ≡ e = cc in
      none e chain (ap (λ y. (returned y).links) (sym same))
  by_room false r full e l c p = by_source r full e l c p

  denial : (v : View) (out : List ℕ) (q : Option Refusal) (s : Seen) (e : Refusal) → s.answer ≡ done → (unless v out q s).answer ≡ denied e → q ≡ Some e
  denial v out None s e d p = absurd (let z : ◌≡◌ {A = ℕ} 0 1 = cc in omega arith)
  denial v out (Some x) s e d p = let same : x ≡ e = cc in ap Some same

  went_on : View → Progress → Source → List ℕ → Seen
  went_on v g s out = seen (moved_on v (Some (with_source v.means v.opening g s))) (overwritten g.used (page_bytes (faces_of v.means) g (page_of v.opening.mag v.means s)) out) done

  pub refused_links : (v : View) (s : Source) (out : List ℕ) (e : Refusal) → (stepped v (copy s room) out).answer ≡ denied e → Goal e (read_at v s (length out))
  unfolding went_on
  refused_links v s out e p = by v.come p
    where
      by : (come : Option Progress) → (stepped_by v come (copy s room) out).answer ≡ denied e → Goal e (read_by v come s (length out))
      by None q =
          let same : RunClosed ≡ e = cc in
          none e chain (ap (λ y. (returned y).links) (sym same))
      by (Some g) q =
          let F = faces_of v.means in
          let full = overfull F v.opening (with_source v.means v.opening g s) (usable (length out)) in
          by_room (nat_lt (length out) g.used) (sourced v.opening.mag v.means s) full e (sourced_linkless v.opening.mag v.means s) (overfull_chainless F v.opening (with_source v.means v.opening g s) (usable (length out)))
          (denial v out (copy_refusal v.means v.opening g s room (length out)) (went_on v g s out) e refl q)
