-- Entries written over the front of a list, one after the other. Assumes nothing.
use Rattle.std.proofs.Common.{◌≡◌, ℕ, zero, suc, ◌+◌, ◌<◌, ◌≤◌, min, List, [], ◌∷◌, map, length, get_or, take, set, refl, ap, add-one, arith}
use Rattle.shelf.specs.Answers.{overlay}

module _ {X Y : Type 0} (f : X → Y) where
  -- one more
  pub put_one : (xs : List X) (ys : List Y) (k : ℕ) (d : X) → k < length xs → k < length ys → set (overlay (map f (take k xs)) ys) k (f (get_or xs k d)) ≡ overlay (map f (take (suc k) xs)) ys
  put_one [] ys k d l m = absurd (omega (arith, l))
  put_one (x ∷ xs) [] k d l m = absurd (omega (arith, m))
  put_one (x ∷ xs) (y ∷ ys) zero d l m = refl
  put_one (x ∷ xs) (y ∷ ys) (suc k) d l m = ap (λ zs. f x ∷ zs) (put_one xs ys k d (omega (arith, l)) (omega (arith, m)))

  pub put_next : (xs : List X) (ys zs : List Y) (k : ℕ) (d : X) (y : Y) → k < length xs → k < length ys → zs ≡ overlay (map f (take k xs)) ys → y ≡ f (get_or xs k d) → set zs k y ≡ overlay (map f (take (k + 1) xs)) ys
  put_next xs ys zs k d y l m is e = rw (is, e, add-one) (put_one xs ys k d l m)

  -- the others find no room
  pub put_all : (xs : List X) (ys : List Y) (n : ℕ) → min (length xs) (length ys) ≤ n → overlay (map f (take n xs)) ys ≡ overlay (map f xs) ys
  put_all [] ys zero h = refl
  put_all [] ys (suc n) h = refl
  put_all (x ∷ xs) [] zero h = refl
  put_all (x ∷ xs) [] (suc n) h = refl
  put_all (x ∷ xs) (y ∷ ys) zero h = absurd (omega (arith, h))
  put_all (x ∷ xs) (y ∷ ys) (suc n) h = ap (λ zs. f x ∷ zs) (put_all xs ys n (omega (arith, h)))
