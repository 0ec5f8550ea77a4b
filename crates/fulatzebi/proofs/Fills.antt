-- The files of a rank added one after the other. Assumes nothing.
use Rattle.std.proofs.Common.{◌≡◌, ℕ, ◌+◌, ◌<◌, ◌≤◌, List, [], length, get_or, drop, Ok, Err, Result, sym, refl, ap, ◌∙◌}
use Rattle.std.proofs.lemmas.List.{drop_more, drop_all}
use Rattle.shelf.specs.Meaning.{Meaning}
use Rattle.rank.specs.declared.fonts.Font.{Font}
use Rattle.rank.specs.Entries.{Entry, entries_of}
use Rattle.fulatzebi.specs.declared.records.FontRecord.{FontRecord}
use Rattle.fulatzebi.specs.declared.stops.Stop.{Stop}
use Rattle.fulatzebi.specs.declared.stops.Why.{Why}
use Rattle.fulatzebi.specs.declared.stops.Step.TheVariants.{Font as At}
use Rattle.fulatzebi.specs.Layers.{Offered, filled, offered, onward}

module _ (m : Meaning) (rank : ℕ) (bytes : List ℕ) (fs : List FontRecord) where
  abbrev pub whole : Result (List Entry) Stop
  whole = filled m rank bytes 0 [] fs

  -- after k files: these are there, and the rest is still to be added
  abbrev pub SoFar : ℕ → List Entry → Type 0
  SoFar k es = whole ≡ filled m rank bytes k es (drop k fs)

  -- at first none
  pub none_yet : (bs : List ℕ) (fonts : List Font) → bs ≡ [] → fonts ≡ [] → SoFar 0 (entries_of bs fonts)
  none_yet bs fonts d f = rw (d, f) refl

  next : (k : ℕ) (es : List Entry) (d : FontRecord) (r : Offered) → k < length fs → r ≡ offered m es bytes (get_or fs k d) → SoFar k es → whole ≡ onward rank k r (λ more. filled m rank bytes (k + 1) more (drop (k + 1) fs))
  unfolding filled
  next k es d r l e s =
      s ∙ ap (filled m rank bytes k es) (drop_more fs k d l)
      ∙ ap (λ (x : Offered). onward rank k x (λ more. filled m rank bytes (k + 1) more (drop (k + 1) fs))) (sym e)

  pub one_more : (k : ℕ) (es es' : List Entry) (d : FontRecord) → k < length fs → (es', Ok tt) ≡ offered m es bytes (get_or fs k d) → SoFar k es → SoFar (k + 1) es'
  one_more k es es' d l e s = next k es d (es', Ok tt) l e s

  pub stopped : (k : ℕ) (es es' : List Entry) (d : FontRecord) (why : Why) → k < length fs → (es', Err why) ≡ offered m es bytes (get_or fs k d) → SoFar k es → Err (record { step = At rank k; why = why }) ≡ whole
  stopped k es es' d why l e s = sym (next k es d (es', Err why) l e s)

  pub all_there : (k : ℕ) (es : List Entry) → length fs ≤ k → SoFar k es → Ok es ≡ whole
  unfolding filled
  all_there k es l s = sym (s ∙ ap (filled m rank bytes k es) (drop_all k fs l))
