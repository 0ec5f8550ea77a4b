-- Definitions listed one by one, of at most 16: one more, none where the next would stand, and all of them.
use Rattle.std.proofs.Common.{◌≡◌, ℕ, zero, suc, ◌+◌, ◌-◌, ◌<◌, ◌≤◌, List, [], ◌∷◌, ◌++◌, Option, Some, None, refl, ap, arith}
use Rattle.inspect.specs.Locals.{Listed, listed, local_at, onward}

module _ (s : List ℕ) (names : List (List ℕ)) (at : ℕ) where
  pub one_more : (k : ℕ) (p : List ℕ × ℕ) → k < 16 → local_at s at ≡ Some p → listed s (16 - k) names at ≡ listed s (16 - (k + 1)) (names ++ (p.0 ∷ [])) p.1
  unfolding listed
  one_more k p below e =
      let f : 16 - k ≡ suc (16 - (k + 1)) = omega arith in
      rw f (ap (λ o. onward names at o (λ more next. listed s (16 - (k + 1)) more next)) e)

  pub no_more : (n : ℕ) → local_at s at ≡ None → listed s n names at ≡ record { names = names; end = at }
  unfolding listed
  no_more zero e = refl
  no_more (suc n) e = ap (λ o. onward names at o (λ more next. listed s n more next)) e

  pub full : (k : ℕ) → 16 ≤ k → listed s (16 - k) names at ≡ record { names = names; end = at }
  unfolding listed
  full k past =
      let f : 16 - k ≡ 0 = omega arith in
      rw f refl
