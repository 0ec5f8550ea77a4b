-- One rank after the other. Assumes nothing.
use Rattle.std.proofs.Common.{◌≡◌, ℕ, Bool, true, List, Ok, Err, Result, ap, ◌∙◌, cond, sym, inl, inr}
use Rattle.std.specs.Prelude.{◌⊎◌, IfOk, IfErr}
use Rattle.shelf.specs.Meaning.{Meaning}
use Rattle.fulatzebi.specs.declared.records.FontRecord.{FontRecord}
use Rattle.fulatzebi.specs.declared.stops.Step.TheVariants.{Call}
use Rattle.fulatzebi.specs.declared.stops.Stop.{Stop}
use Rattle.fulatzebi.specs.declared.stops.Why.TheVariants.{BadRecord}
use Rattle.fulatzebi.specs.Answers.{no_memory}
use Rattle.fulatzebi.specs.Layers.{above, faces_meaning, known, laid, shelf_of}

module _ (bytes : List ℕ) (fs : List FontRecord) (k : known fs ≡ true) (m0 m1 m2 m3 : Meaning)
    (e0 : Ok m0 ≡ faces_meaning bytes fs) (e1 : Ok m1 ≡ laid bytes fs 1 m0) (e2 : Ok m2 ≡ laid bytes fs 2 m1) (e3 : Ok m3 ≡ laid bytes fs 3 m2) where
  abbrev ups : Result Meaning Stop → Result Meaning Stop
  ups r = above bytes fs 4 (above bytes fs 3 (above bytes fs 2 (above bytes fs 1 r)))

  last : (r : Result Meaning Stop) → r ≡ laid bytes fs 4 m3 → r ≡ shelf_of bytes fs
  last r e =
      e
      ∙ ap (above bytes fs 4) (e3 ∙ ap (above bytes fs 3) (e2 ∙ ap (above bytes fs 2) (e1 ∙ ap (above bytes fs 1) e0)))
      ∙ sym (ap (λ (b : Bool). cond b (ups (faces_meaning bytes fs)) (Err (record { step = Call; why = BadRecord }))) k)

  pub all_laid : {X : Type 0} (means : X → Meaning) (r : Result X Stop) → IfOk r (λ s. Ok (means s) ≡ laid bytes fs 4 m3) → IfOk r (λ s. Ok (means s) ≡ shelf_of bytes fs)
  all_laid means (Ok s) p = last (Ok (means s)) p
  all_laid means (Err s) p = tt

  pub last_refused : {X : Type 0} (r : Result X Stop) → IfErr r (λ s. (s ≡ no_memory) ⊎ (Err s ≡ laid bytes fs 4 m3)) → IfErr r (λ s. (s ≡ no_memory) ⊎ (Err s ≡ shelf_of bytes fs))
  last_refused (Ok s) p = tt
  last_refused (Err s) (inl p) = inl p
  last_refused (Err s) (inr p) = inr (last (Err s) p)
