-- The first face that bears a name, found by asking each face in its turn. Assumes nothing.
use Rattle.std.proofs.Common.{◌≡◌, ℕ, zero, suc, ◌<◌, ◌≤◌, true, false, List, [], ◌∷◌, map, length, get_or, Some, None, Option, sym, refl, ◌∙◌, arith}
use Rattle.std.specs.Str.{bytes_eq}
use Rattle.std.specs.List.{slice_get}
use Rattle.std.specs.Option.{option_map, MatchOption}
use Rattle.std.proofs.lemmas.List.{length-map}
use Rattle.numbers.proofs.Seek.{position_is}
use Rattle.shelf.specs.Alone.{name_of, is_called}
use Rattle.shelf.specs.Meaning.{FaceMeaning, facts_of}
use Rattle.shelf.specs.Names.{found_in}

module _ (name : List ℕ) where
  called_at : (fs : List FaceMeaning) (k : ℕ) (d : List ℕ) → k < length fs → is_called (option_map facts_of (slice_get fs k)) name ≡ bytes_eq (get_or (map name_of fs) k d) name
  called_at [] k d h = absurd (omega arith)
  called_at (f ∷ fs) zero d h = refl
  called_at (f ∷ fs) (suc k) d h = called_at fs k d (omega arith)

  pub first_bears : (fs : List FaceMeaning) (n : ℕ) (r : Option ℕ) → n ≡ length fs → MatchOption r ((k : ℕ) → 0 ≤ k → k < n → is_called (option_map facts_of (slice_get fs k)) name ≡ false) (λ i. (0 ≤ i) × (i < n) × (is_called (option_map facts_of (slice_get fs i)) name ≡ true) × ((k : ℕ) → 0 ≤ k → k < i → is_called (option_map facts_of (slice_get fs k)) name ≡ false)) → r ≡ found_in (map name_of fs) name
  unfolding found_in
  first_bears fs n (Some i) e h =
      let l = length-map fs name_of in
      position_is (map name_of fs) (λ x. bytes_eq x name) (Some i)
      (omega (arith, h.1), (λ d. sym (called_at fs i d (omega (arith, h.1))) ∙ h.2), (λ k d a b. sym (called_at fs k d (omega (arith, h.1))) ∙ h.3 k a b))
  first_bears fs n None e h =
      let l = length-map fs name_of in
      position_is (map name_of fs) (λ x. bytes_eq x name) None (λ k d a b. sym (called_at fs k d (omega arith)) ∙ h k a (omega arith))
