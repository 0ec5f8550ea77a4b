-- Pages copied one after the other by a run. Assumes nothing.
use Rattle.std.proofs.Common.{◌≡◌, ℕ, ◌+◌, ◌<◌, ◌≤◌, List, length, get_or, drop, Some, None, Ok, Err, Option, sym, ap, ◌∙◌}
use Rattle.std.proofs.lemmas.List.{drop_more, drop_all}
use Rattle.shelf.specs.declared.refusals.Refusal.{Refusal}
use Rattle.shelf.specs.Meaning.{Meaning}
use Rattle.ledgers.specs.Lists.{read_at}
use Rattle.ledgers.specs.Steps.{Begun, Seen, View, beginning, close, copy, done, long, refused as denied, seen, stepped}
use Rattle.fulatzebi.specs.declared.records.LinkRecord.{LinkRecord}
use Rattle.fulatzebi.specs.declared.records.SourceRecord.{SourceRecord}
use Rattle.fulatzebi.specs.declared.stops.Step.TheVariants.{Document as Start, Page, Closing}
use Rattle.fulatzebi.specs.declared.stops.Why.TheVariants.{BadRecord}
use Rattle.fulatzebi.specs.Answers.{accepted}
use Rattle.fulatzebi.specs.Flat.{Flat, closed_by, copied_by, copied_from, flat, flat_by, flat_stop, links_after, onward, stop_at}
use Rattle.fulatzebi.specs.Layers.{bytes_in}

module _ (docs : List ℕ) (room : ℕ) (links : List LinkRecord) (ss : List SourceRecord) where
  -- how a call goes on: a run that was opened, and an opening that was refused
  pub opened : (m : Meaning) (opening first : List ℕ) (v : View) (out : List ℕ) → record { run = Ok v; out = out } ≡ beginning m opening first → flat m opening docs ss room links first ≡ copied_from docs room links 0 ss v out
  opened m opening first v out e = ap (λ (b : Begun). flat_by docs room links ss b.out b.run) (sym e)

  pub not_opened : (m : Meaning) (opening first : List ℕ) (x : Refusal) (out : List ℕ) → record { run = Err x; out = out } ≡ beginning m opening first → flat_stop (stop_at Start x) links out ≡ flat m opening docs ss room links first
  not_opened m opening first x out e = ap (λ (b : Begun). flat_by docs room links ss b.out b.run) e

  module _ (whole : Flat) where
    -- k pages are copied
    abbrev pub SoFar : ℕ → View → List ℕ → Type 0
    SoFar k v out = whole ≡ copied_from docs room links k (drop k ss) v out

    module _ (k : ℕ) (v : View) (out : List ℕ) (s : SoFar k v out) where
      abbrev next : View → List ℕ → Flat
      next v' out' = copied_from docs room links (k + 1) (drop (k + 1) ss) v' out'

      module _ (d : SourceRecord) (l : k < length ss) where
        by_copy : (o : Option (List ℕ)) → o ≡ bytes_in docs (get_or ss k d).place (get_or ss k d).length → whole ≡ copied_by v k links out room o (get_or ss k d).page next
        unfolding copied_from
        by_copy o e = s ∙ ap (λ (xs : List SourceRecord). copied_from docs room links k xs v out) (drop_more ss k d l) ∙ ap (λ (x : Option (List ℕ)). copied_by v k links out room x (get_or ss k d).page next) (sym e)

        -- a record that names no bytes
        pub lost : None ≡ bytes_in docs (get_or ss k d).place (get_or ss k d).length → flat_stop (record { step = Page k; why = BadRecord }) links out ≡ whole
        lost e = sym (by_copy None e)

        module _ (bs : List ℕ) (e : Some bs ≡ bytes_in docs (get_or ss k d).place (get_or ss k d).length) where
          taken : (x : Seen) → x ≡ stepped v (copy (record { document = bs; page = (get_or ss k d).page }) room) out
              → whole ≡ onward k links (links_after (read_at v (record { document = bs; page = (get_or ss k d).page }) (length out)) room links) x x.answer next
          taken x q =
              by_copy (Some bs) e
              ∙ ap (λ (y : Seen). onward k links (links_after (read_at v (record { document = bs; page = (get_or ss k d).page }) (length out)) room links) y y.answer next) (sym q)

          pub one_copied : (v' : View) (out' : List ℕ) → seen v' out' done ≡ stepped v (copy (record { document = bs; page = (get_or ss k d).page }) room) out → SoFar (k + 1) v' out'
          one_copied v' out' q = taken (seen v' out' done) q

          pub one_refused : (v' : View) (out' : List ℕ) (x : Refusal) (links' : List LinkRecord) → seen v' out' (denied x) ≡ stepped v (copy (record { document = bs; page = (get_or ss k d).page }) room) out
              → links' ≡ links_after (read_at v (record { document = bs; page = (get_or ss k d).page }) (length out)) room links → flat_stop (stop_at (Page k) x) links' out' ≡ whole
          one_refused v' out' x links' q n = ap (λ ls. flat_stop (stop_at (Page k) x) ls out') n ∙ sym (taken (seen v' out' (denied x)) q)

      by_close : length ss ≤ k → (x : Seen) → x ≡ stepped v close out → closed_by links x.out x.answer ≡ whole
      unfolding copied_from
      by_close l x q = ap (λ (y : Seen). closed_by links y.out y.answer) q ∙ sym (s ∙ ap (λ (xs : List SourceRecord). copied_from docs room links k xs v out) (drop_all k ss l))

      pub all_closed : length ss ≤ k → (v' : View) (out' : List ℕ) (n : ℕ) → seen v' out' (long n) ≡ stepped v close out → record { answer = accepted 0 n; links = links; out = out' } ≡ whole
      all_closed l v' out' n q = by_close l (seen v' out' (long n)) q

      pub not_closed : length ss ≤ k → (v' : View) (out' : List ℕ) (x : Refusal) → seen v' out' (denied x) ≡ stepped v close out → flat_stop (stop_at Closing x) links out' ≡ whole
      not_closed l v' out' x q = by_close l (seen v' out' (denied x)) q
