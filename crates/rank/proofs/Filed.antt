-- Files added one after the other. Assumes nothing.
use Rattle.std.proofs.Common.{◌≡◌, ℕ, ◌+◌, ◌<◌, ◌≤◌, min, List, [], ◌∷◌, ◌++◌, map, length, get_or, take, drop, set, Result, sym, refl, ap, ◌∙◌, arith}
use Rattle.std.proofs.lemmas.List.{length-map, get_or-map, take-map, take_more, take_more_set, drop-set-lt, drop-drop, length-set}
use Rattle.shelf.specs.declared.refusals.Refusal.{Refusal}
use Rattle.shelf.specs.Meaning.{Meaning}
use Rattle.rank.specs.declared.filing.Offer.{Offer}
use Rattle.rank.specs.Adding.{Added, AllAdded, Given, given_by, added, next_added, added_all}
use Rattle.rank.specs.Entries.{Entry}

-- after k files: what is taken and answered, and the other answers as they were
pub record Filed (m : Meaning) (es₀ es : List Entry) (offers : List Given) (answers₀ answers : List (Result (Unit {0}) Refusal)) (k : ℕ) : Type 0 where
  pub within : k ≤ length offers
  pub room : k ≤ length answers
  pub long : length answers ≡ length answers₀
  pub done : (es, take k answers) ≡ added_all m (es₀, []) (take k offers)
  pub rest : drop k answers ≡ drop k answers₀

all_push : (m : Meaning) (b : AllAdded) (gs : List Given) (g : Given) → added_all m b (gs ++ g ∷ []) ≡ next_added m (added_all m b gs) g
unfolding added_all
all_push m b [] g = refl
all_push m b (x ∷ gs) g = all_push m (next_added m b x) gs g

module _ (m : Meaning) (es₀ : List Entry) (offers : List Given) (answers₀ : List (Result (Unit {0}) Refusal)) where
  pub none_yet : Filed m es₀ es₀ offers answers₀ answers₀ 0
  unfolding added_all
  none_yet = record { within = omega arith; room = omega arith; long = refl; done = refl; rest = refl }

  pub one_filed : (es es' : List Entry) (answers : List (Result (Unit {0}) Refusal)) (k : ℕ) (g : Given) (r : Result (Unit {0}) Refusal) → Filed m es₀ es offers answers₀ answers k → k < length offers → k < length answers → get_or offers k g ≡ g → (es', r) ≡ added m es g.name g.file → Filed m es₀ es' offers answers₀ (set answers k r) (k + 1)
  one_filed es es' answers k g r f lo la is e =
      let l = length-set answers k r in
      record {
        within = omega arith;
        room = omega (arith, l);
        long = l ∙ f.long;
        done =
            ap (λ (x : List (Result (Unit {0}) Refusal)). (es', x)) (take_more_set answers k r la)
            ∙ ap (λ (x : Added). (x.0, take k answers ++ x.1 ∷ [])) e
            ∙ ap (λ (b : AllAdded). next_added m b g) f.done
            ∙ sym (ap (added_all m (es₀, [])) (take_more offers k g lo ∙ ap (λ x. take k offers ++ x ∷ []) is) ∙ all_push m (es₀, []) (take k offers) g);
        rest = drop-set-lt (k + 1) answers k r (omega arith) ∙ sym (drop-drop 1 k answers) ∙ ap (drop 1) f.rest ∙ drop-drop 1 k answers₀;
      }

-- the file that stands at k among the offers
pub one_offered : (m : Meaning) (es₀ es es' : List Entry) (offers : List Offer) (answers₀ answers : List (Result (Unit {0}) Refusal)) (k : ℕ) (d : Offer) (r : Result (Unit {0}) Refusal) → Filed m es₀ es (map given_by offers) answers₀ answers k → k < length offers → k < length answers → (es', r) ≡ added m es (get_or offers k d).name.now (get_or offers k d).file.now → Filed m es₀ es' (map given_by offers) answers₀ (set answers k r) (k + 1)
one_offered m es₀ es es' offers answers₀ answers k d r f lo la e =
    let l = length-map offers given_by in
    let g = given_by (get_or offers k d) in
    one_filed m es₀ (map given_by offers) answers₀ es es' answers k g r f (omega arith) la (get_or-map given_by offers k d g lo) e

-- at the end of the shorter list
pub all_filed : {O : Type 0} (m : Meaning) (given : O → Given) (es₀ es : List Entry) (offers : List O) (answers₀ answers : List (Result (Unit {0}) Refusal)) (k : ℕ) → Filed m es₀ es (map given offers) answers₀ answers k → min (length offers) (length answers₀) ≡ k → ((es, take (min (length offers) (length answers₀)) answers) ≡ added_all m (es₀, []) (map given (take (min (length offers) (length answers₀)) offers))) × (drop (min (length offers) (length answers₀)) answers ≡ drop (min (length offers) (length answers₀)) answers₀)
all_filed m given es₀ es offers answers₀ answers k f n = (
  ap (λ (x : ℕ). (es, take x answers)) n ∙ f.done ∙ ap (added_all m (es₀, [])) (take-map given k offers ∙ ap (λ x. map given (take x offers)) (sym n)),
  ap (λ x. drop x answers) n ∙ f.rest ∙ ap (λ x. drop x answers₀) (sym n),
)
