-- The first entry that has a key, step by step through a table. Assumes nothing.
use Rattle.std.proofs.Common.{◌≡◌, ℕ, zero, suc, ◌+◌, ◌<◌, ◌≤◌, Bool, true, false, cond, List, [], ◌∷◌, ◌++◌, map, length, get_or, take, drop, Some, None, Option, sym, refl, ap, ◌∙◌, arith, take-append-drop}
use Rattle.std.specs.Option.{option_map, MatchOption}
use Rattle.std.specs.List.{AllWithin, HoldsAt}
use Rattle.std.proofs.lemmas.List.{take_more, drop_more, length-take-le, take_all}
use Rattle.numbers.specs.Match.{first_match}

nothing : (b : Bool) (o : Option ℕ) → cond b (Some 0) (option_map suc o) ≡ None → (b ≡ false) × (o ≡ None)
nothing true o e = absurd (let z : ◌≡◌ {A = ℕ} 0 1 = cc in omega arith)
nothing false None e = (refl, refl)
nothing false (Some k) e = absurd (let z : ◌≡◌ {A = ℕ} 0 1 = cc in omega arith)

module _ {A : Type 0} (p : A → Bool) where
  none-push : (ys : List A) (x : A) → first_match p ys ≡ None → p x ≡ false → first_match p (ys ++ x ∷ []) ≡ None
  none-push [] x e h = rw h
  none-push (y ∷ ys) x e h = let n = nothing (p y) (first_match p ys) e in rw (n.0, none-push ys x n.1 h)

  found_at : (ys : List A) (x : A) (zs : List A) → first_match p ys ≡ None → p x ≡ true → first_match p (ys ++ x ∷ zs) ≡ Some (length ys)
  found_at [] x zs e h = rw h
  found_at (y ∷ ys) x zs e h = let n = nothing (p y) (first_match p ys) e in rw (n.0, found_at ys x zs n.1 h)

  pub passed : (xs : List A) (i : ℕ) (x : A) → i < length xs → x ≡ get_or xs i x → first_match p (take i xs) ≡ None → p x ≡ false → first_match p (take (i + 1) xs) ≡ None
  passed xs i x lt e n h = rw (take_more xs i x lt, ← e, none-push (take i xs) x n h)

  pub found : (xs : List A) (i : ℕ) (x : A) → i < length xs → x ≡ get_or xs i x → first_match p (take i xs) ≡ None → p x ≡ true → Some i ≡ first_match p xs
  found xs i x lt e n h =
      let s : take i xs ++ (x ∷ drop (i + 1) xs) ≡ xs = ap (λ (y : A). take i xs ++ (y ∷ drop (i + 1) xs)) e ∙ ap (λ (l : List A). take i xs ++ l) (sym (drop_more xs i x lt)) ∙ take-append-drop i xs in
      ap Some (sym (length-take-le i xs (omega arith))) ∙ sym (found_at (take i xs) x (drop (i + 1) xs) n h) ∙ ap (first_match p) s

  pub none : (xs : List A) (i : ℕ) → length xs ≤ i → first_match p (take i xs) ≡ None → None ≡ first_match p xs
  none xs i le n = sym n ∙ ap (first_match p) (take_all i xs le)

  -- an entry that passes, and none before it
  pub at_first : (xs : List A) (d : A) (k : ℕ) → k < length xs → p (get_or xs k d) ≡ true → ((i : ℕ) → i < k → p (get_or xs i d) ≡ false) → first_match p xs ≡ Some k
  at_first [] d k h e f = absurd (omega arith)
  at_first (x ∷ xs) d zero h e f = rw e
  at_first (x ∷ xs) d (suc k) h e f = rw (f 0 (omega arith), at_first xs d k (omega arith) e (λ i l. f (suc i) (omega arith)))

  shifted : (b : Bool) (o : Option ℕ) (k : ℕ) → cond b (Some 0) (option_map suc o) ≡ Some (suc k) → o ≡ Some k
  shifted true o k e = absurd (let z : ◌≡◌ {A = ℕ} 0 (suc k) = cc in omega arith)
  shifted false None k e = absurd (let z : ◌≡◌ {A = ℕ} 0 1 = cc in omega arith)
  shifted false (Some j) k e = let q : suc j ≡ suc k = cc in let r : j ≡ k = omega arith in ap Some r

  pub match_within : (xs : List A) (k : ℕ) → first_match p xs ≡ Some k → k < length xs
  match_within [] k e = absurd (let z : ◌≡◌ {A = ℕ} 0 1 = cc in omega arith)
  match_within (x ∷ xs) zero e = omega arith
  match_within (x ∷ xs) (suc k) e = let i = match_within xs k (shifted (p x) (first_match p xs) k e) in omega arith

  pub match_passes : (xs : List A) (d : A) (k : ℕ) → first_match p xs ≡ Some k → p (get_or xs k d) ≡ true
  match_passes [] d k e = absurd (let z : ◌≡◌ {A = ℕ} 0 1 = cc in omega arith)
  match_passes (x ∷ xs) d zero e = at_head (p x) (first_match p xs) e
    where
      at_head : (b : Bool) (o : Option ℕ) → cond b (Some 0) (option_map suc o) ≡ Some zero → b ≡ true
      at_head true o q = refl
      at_head false None q = absurd (let z : ◌≡◌ {A = ℕ} 0 1 = cc in omega arith)
      at_head false (Some j) q = absurd (let z : suc j ≡ zero = cc in omega arith)
  match_passes (x ∷ xs) d (suc k) e = match_passes xs d k (shifted (p x) (first_match p xs) k e)

-- as the library's search by position has it
pub position_is : {A : Type 0} (xs : List A) (p : A → Bool) (r : Option ℕ) → MatchOption r (AllWithin (λ x. p x ≡ false) xs 0 (length xs)) (λ i. (i < length xs) × HoldsAt (λ x. p x ≡ true) xs i × AllWithin (λ x. p x ≡ false) xs 0 i) → r ≡ first_match p xs
position_is [] p (Some i) h = absurd (omega (arith, h.0))
position_is (x ∷ xs) p (Some i) h = sym (at_first p (x ∷ xs) x i h.0 (h.1 x) (λ j l. h.2 j x (omega arith) l))
position_is [] p None h = refl
position_is (x ∷ xs) p None h = rw (h 0 x (omega arith) (omega arith), ← position_is xs p None (λ k d l u. h (suc k) d (omega arith) (omega arith)))

-- a search through a list that is made from another
pub match_map : {A B : Type 0} (p : B → Bool) (f : A → B) (xs : List A) → first_match p (map f xs) ≡ first_match (λ x. p (f x)) xs
match_map p f [] = refl
match_map p f (x ∷ xs) = ap (λ o. cond (p (f x)) (Some 0) (option_map suc o)) (match_map p f xs)

-- none in a list, at any place
pub none-at : {A : Type 0} (p : A → Bool) (xs : List A) (d : A) (i : ℕ) → i < length xs → first_match p xs ≡ None → p (get_or xs i d) ≡ false
none-at p [] d i h e = absurd (omega arith)
none-at p (x ∷ xs) d zero h e = (nothing (p x) (first_match p xs) e).0
none-at p (x ∷ xs) d (suc i) h e = none-at p xs d i (omega arith) (nothing (p x) (first_match p xs) e).1
