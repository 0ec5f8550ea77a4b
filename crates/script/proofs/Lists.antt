-- Lists of named bytes: what is given in one of them, and what that leaves in the others.
use Rattle.std.proofs.Common.{arith, rules, ℕ, List, [], ◌∷◌, ◌++◌, ◌≡◌, ◌≢◌, ◌<◌, ◌+◌, Bool, true, false, cond, nat_eq, length, set, get_or, take, zero, suc, Option, Some, None, refl, sym, ◌∙◌, ap}
use Rattle.std.specs.Cmp.Lexicographic.{bytes_decides}
use Rattle.std.specs.List.{slice_get}
use Rattle.std.specs.Option.{option_and_then, option_or}
use Rattle.std.specs.Str.{bytes_eq}
use Rattle.std.specs.Vec.{vec_items}
use Rattle.std.specs.declared.vec.Vec.{Vec}
use Rattle.std.proofs.lemmas.Option.{slice_get-get_or, slice_get_within, get_or_from_slice_get}
use Rattle.std.proofs.lemmas.List.{take_more}
use Rattle.script.specs.Naming.{list_of, last_given}
use Rattle.script.specs.declared.store.Named.{Named}

or_chosen : {X : Type 0} (same : Bool) (x : X) (p q : Option X) → option_or (cond same (Some x) p) q ≡ cond same (Some x) (option_or p q)
or_chosen true x p q = refl
or_chosen false x p q = refl

-- one more at the end is the last that is given its name
pub one_more : (name : List ℕ) (list : List Named) (one : Named) → last_given name (list ++ one ∷ []) ≡ cond (bytes_eq (vec_items one.name) name) (Some (vec_items one.bytes)) (last_given name list)
one_more name [] one = refl
one_more name (first ∷ list) one = rw (one_more name list one) (or_chosen (bytes_eq (vec_items one.name) name) (vec_items one.bytes) (last_given name list) (cond (bytes_eq (vec_items first.name) name) (Some (vec_items first.bytes)) None))

-- at a place in the list, the one there is asked before those in front of it
pub asked : (name : List ℕ) (list : List Named) (i : ℕ) (one : Named) → i < length list → one ≡ get_or list i one → last_given name (take (i + 1) list) ≡ cond (bytes_eq (vec_items one.name) name) (Some (vec_items one.bytes)) (last_given name (take i list))
asked name list i one l is = ap (last_given name) (take_more list i one l ∙ ap (λ x. take i list ++ x ∷ []) (sym is)) ∙ one_more name (take i list) one

put_same : {X : Type 0} (xs : List X) (i : ℕ) (y : X) → i < length xs → slice_get (set xs i y) i ≡ Some y
put_same [] i y l = absurd (omega arith)
put_same (x ∷ xs) zero y l = refl
put_same (x ∷ xs) (suc i) y l = put_same xs i y (omega arith)

put_other : {X : Type 0} (xs : List X) (i j : ℕ) (y : X) → j ≢ i → slice_get (set xs i y) j ≡ slice_get xs j
put_other [] i j y n = refl
put_other (x ∷ xs) zero zero y n = absurd (n refl)
put_other (x ∷ xs) zero (suc j) y n = refl
put_other (x ∷ xs) (suc i) zero y n = refl
put_other (x ∷ xs) (suc i) (suc j) y n = put_other xs i j y (λ e. n (ap suc e))

not_same : (b : Bool) → (b ≡ true → ⊥) → b ≡ false
not_same true n = absurd (n refl)
not_same false n = refl

module _ {A : Type 0} where
  abbrev pub found : List (Vec Named A) → List ℕ → Option (List ℕ)
  found lists name = option_and_then (λ list. last_given name (vec_items list)) (slice_get lists (list_of name))

  empty : (name : List ℕ) (r : Option (Vec Named A)) → ((x : Vec Named A) → r ≡ Some x → vec_items x ≡ []) → option_and_then (λ list. last_given name (vec_items list)) r ≡ None
  empty name None h = refl
  empty name (Some x) h = rw (h x refl) refl

  pub nothing : (lists : List (Vec Named A)) → ((i : ℕ) (d : Vec Named A) → i < length lists → vec_items (get_or lists i d) ≡ []) → (name : List ℕ) → found lists name ≡ None
  nothing lists h name = empty name (slice_get lists (list_of name)) (λ x e. ap vec_items (sym (get_or_from_slice_get lists (list_of name) x x e)) ∙ h (list_of name) x (slice_get_within lists (list_of name) x e))

  module _ (lists : List (Vec Named A)) (list d : Vec Named A) (one : Named) (other : List ℕ) (i : ℕ) (l : i < length lists) (more : vec_items list ≡ vec_items (get_or lists i d) ++ one ∷ []) where
    here : option_and_then (λ l. last_given other (vec_items l)) (slice_get (set lists i list) i) ≡ cond (bytes_eq (vec_items one.name) other) (Some (vec_items one.bytes)) (option_and_then (λ l. last_given other (vec_items l)) (slice_get lists i))
    here = rw (put_same lists i list l, slice_get-get_or lists i d l, more) (one_more other (vec_items (get_or lists i d)) one)

    anywhere : (j : ℕ) (same : Bool) → nat_eq j i ≡ same → (j ≢ i → bytes_eq (vec_items one.name) other ≡ false) → option_and_then (λ l. last_given other (vec_items l)) (slice_get (set lists i list) j) ≡ cond (bytes_eq (vec_items one.name) other) (Some (vec_items one.bytes)) (option_and_then (λ l. last_given other (vec_items l)) (slice_get lists j))
    anywhere j true e apart = let at : j ≡ i = search rules in rw at here
    anywhere j false e apart = let n : j ≢ i = search rules in rw (put_other lists i j list n, apart n) refl

  pub given : (lists : List (Vec Named A)) (list d : Vec Named A) (one : Named) (key other : List ℕ) → list_of key < length lists → vec_items one.name ≡ key → vec_items list ≡ vec_items (get_or lists (list_of key) d) ++ one ∷ [] → found (set lists (list_of key) list) other ≡ cond (bytes_eq key other) (Some (vec_items one.bytes)) (found lists other)
  given lists list d one key other l is more =
      let apart : (list_of other ≢ list_of key) → bytes_eq (vec_items one.name) other ≡ false = λ n. not_same (bytes_eq (vec_items one.name) other) (λ e. n (ap list_of (sym ((bytes_decides (vec_items one.name) other).0 e) ∙ is))) in
      anywhere lists list d one other (list_of key) l more (list_of other) (nat_eq (list_of other) (list_of key)) refl apart
      ∙ ap (λ k. cond (bytes_eq k other) (Some (vec_items one.bytes)) (found lists other)) is
