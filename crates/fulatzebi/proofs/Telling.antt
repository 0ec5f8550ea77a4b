-- What a call that reads a page hands on from its own lists. Assumes nothing.
use Rattle.std.proofs.Common.{◌≡◌, ℕ, min, Bool, true, false, cond, List, [], map, length, take, replicate, Ok, Err, Result, refl, ap, subst, ◌∙◌, arith}
use Rattle.std.proofs.lemmas.List.{length-take, length-replicate}
use Rattle.std.specs.Prelude.{nat_le}
use Rattle.std.specs.Option.{unwrap_or}
use Rattle.shelf.specs.declared.marks.Link.{Link}
use Rattle.shelf.specs.declared.marks.Mark.{Mark}
use Rattle.shelf.specs.declared.refusals.Refusal.{Refusal}
use Rattle.shelf.specs.declared.refusals.Refusal.TheVariants.{MarksFull}
use Rattle.shelf.specs.Answers.{answer, chain_of, ended, linked, overlay}
use Rattle.shelf.specs.Outcomes.{Outcome, Ending, well, fault}
use Rattle.shelf.specs.Refusals.{returned}
use Rattle.reading.specs.Reading.{Served}
use Rattle.machine.specs.Views.{counted}
use Rattle.fulatzebi.specs.declared.records.Answer.{Answer}
use Rattle.fulatzebi.specs.declared.records.LinkRecord.{LinkRecord}
use Rattle.fulatzebi.specs.declared.records.MarkRecord.{MarkRecord}
use Rattle.fulatzebi.specs.Records.{link_record, mark_record}
use Rattle.fulatzebi.specs.Answers.{accepted, refused}
use Rattle.fulatzebi.specs.Served.{Read, answered_by, ended_by, link_filler, links_left, made, mark_filler, marks_left, page_stop}
use Rattle.fulatzebi.proofs.Fresh.{Real, linked_back, made_fresh}
use Rattle.fulatzebi.proofs.Linkless.{Linkless}
use Rattle.fulatzebi.proofs.Overlays.{put_all}

-- what is handed on of a chain list, by the answer
abbrev pub passed : {X : Type 0} → Result X Refusal → List Link → List LinkRecord → List LinkRecord
passed (Ok x) chain links = links
passed (Err e) chain links = overlay (map link_record (take (unwrap_or (returned e).links 0) chain)) links

module _ (links : List LinkRecord) (chain : List Link) (long : length chain ≡ length links) where
  none_passed : {X : Type 0} (r : Result X Refusal) (chain' : List Link) → Linkless r → passed r chain' links ≡ links
  none_passed (Ok x) chain' l = refl
  none_passed (Err e) chain' l = ap (λ n. overlay (map link_record (take (unwrap_or n 0) chain')) links) l

  ended_passed : {W : Type 0} (n : ℕ) (e : Ending W) → passed (ended n e) (overlay (chain_of e) chain) links ≡ overlay (map link_record (chain_of e)) links
  ended_passed n (well w) = refl
  ended_passed n (fault k ch) = linked_back ch links chain long

  pub outcome_passed : {W : Type 0} (o : Outcome W) (room : ℕ) → passed (answer o room) (linked o room chain) links ≡ cond (nat_le (length o.marks) room) (overlay (map link_record (chain_of o.ending)) links) links
  unfolding answer linked
  outcome_passed {W} o room = by (nat_le (length o.marks) room)
    where
      by : (b : Bool) → passed {X = ℕ × W} (cond b (ended (length o.marks) o.ending) (Err MarksFull)) (cond b (overlay (chain_of o.ending) chain) chain) links ≡ cond b (overlay (map link_record (chain_of o.ending)) links) links
      by true = ended_passed (length o.marks) o.ending
      by false = refl

  -- the chain list, whatever was read
  pub all_passed : {W : Type 0} (r : Result (Outcome W) Refusal) (a : Result (ℕ × W) Refusal) (chain' : List Link) (marks marks' : List Mark) → Linkless r → Served r chain chain' marks marks' a → passed a chain' links ≡ links_left r (length marks) links
  all_passed {W} (Err e) a chain' marks marks' l s = rw (s.0, s.1) (none_passed {X = ℕ × W} (Err e) chain l)
  all_passed (Ok o) a chain' marks marks' l s = rw (s.answered, s.chained) (outcome_passed o (length marks))

-- the marks, whatever was read
pub all_made : {W : Type 0} (r : Result (Outcome W) Refusal) (a : Result (ℕ × W) Refusal) (chain chain' : List Link) (list' : List Mark) (marks : List MarkRecord) → ((o : Outcome W) → r ≡ Ok o → Real o.marks) → Served r chain chain' (replicate (length marks) mark_filler) list' a → overlay (map mark_record (made list')) marks ≡ marks_left r marks
all_made (Err e) a chain chain' list' marks g s = rw (s.2, made_fresh [] (length marks) tt) (put_all mark_record [] marks (length marks) (omega arith))
all_made (Ok o) a chain chain' list' marks g s = rw (s.marked, made_fresh o.marks (length marks) (g o refl)) (put_all mark_record o.marks marks (length marks) (omega arith))

length_taken : {X : Type 0} (xs : List X) (n : ℕ) → length (take n xs) ≡ min (length xs) n
length_taken xs n = omega (arith, length-take n xs)

-- what is answered, by the library's answer and how many marks were made
abbrev pub told_by : Result ℕ Refusal → ℕ → Answer
told_by (Ok n) k = accepted n 0
told_by (Err e) k = refused (page_stop 0 e) k

module _ (r : Result (Outcome (Unit {0})) Refusal) (l : Linkless r) (g : (o : Outcome (Unit {0})) → r ≡ Ok o → Real o.marks) (links : List LinkRecord) (marks : List MarkRecord) where
  by_outcome : (o : Outcome (Unit {0})) (a : Result ℕ Refusal) (k : ℕ) → counted a ≡ answer o (length marks) → k ≡ min (length o.marks) (length marks) → told_by a k ≡ answered_by (Ok o) (length marks)
  by_outcome o (Ok n) k e m = ap (ended_by (min (length o.marks) (length marks))) e
  by_outcome o (Err x) k e m = ap (refused (page_stop 0 x)) m ∙ ap (ended_by (min (length o.marks) (length marks))) e

  by_refusal : (x : Refusal) (a : Result ℕ Refusal) → counted a ≡ Err x → told_by a 0 ≡ refused (page_stop 0 x) 0
  by_refusal x (Ok n) e = absurd (let z : ◌≡◌ {A = ℕ} 0 1 = cc in omega arith)
  by_refusal x (Err y) e = let same : y ≡ x = cc in ap (λ z. refused (page_stop 0 z) 0) same

  answered : (a : Result ℕ Refusal) (chain chain' : List Link) (list' : List Mark) → Served r chain chain' (replicate (length marks) mark_filler) list' (counted a) → told_by a (length (made list')) ≡ answered_by r (length marks)
  answered a chain chain' list' s = by r refl s
    where
      by : (q : Result (Outcome (Unit {0})) Refusal) → r ≡ q → Served q chain chain' (replicate (length marks) mark_filler) list' (counted a) → told_by a (length (made list')) ≡ answered_by q (length marks)
      by (Err x) e s = rw (s.2, made_fresh [] (length marks) tt, length-take (length marks) _) (ap (told_by a) (omega arith) ∙ by_refusal x a s.0)
      by (Ok o) e s = rw (s.marked, made_fresh o.marks (length marks) (g o e)) (by_outcome o a _ (s.answered ∙ ap (answer o) (length-replicate (length marks) mark_filler)) (length_taken o.marks (length marks)))

  pub read_told : (a : Result ℕ Refusal) (chain chain' : List Link) (list list' w : List Mark) (links' : List LinkRecord) (marks' : List MarkRecord) (b : Answer)
      → chain ≡ replicate (length links) link_filler → list ≡ replicate (length marks) mark_filler → Served r chain chain' list list' (counted a) → w ≡ made list'
      → marks' ≡ overlay (map mark_record w) marks → links' ≡ passed (counted a) chain' links → b ≡ told_by a (length w) → Read r links links' marks marks' b
  read_told a chain chain' list list' w links' marks' b c d s e m n t =
      let s1 = subst (λ x. Served r x chain' list list' (counted a)) c s in
      let s2 = subst (λ x. Served r (replicate (length links) link_filler) chain' x list' (counted a)) d s1 in
      record {
        answered = t ∙ ap (λ x. told_by a (length x)) e ∙ answered a _ chain' list' s2;
        marked = m ∙ ap (λ x. overlay (map mark_record x) marks) e ∙ all_made r (counted a) _ chain' list' marks g s2;
        linked = n ∙ all_passed links _ (length-replicate (length links) link_filler) r (counted a) chain' _ list' l s2 ∙ ap (λ k. links_left r k links) (length-replicate (length marks) mark_filler);
      }
