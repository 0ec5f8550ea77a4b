-- A file read item by item: one item on, a refusal, and the end. Assumes nothing.
use Rattle.std.proofs.Common.{◌≡◌, ℕ, zero, suc, ◌+◌, ◌-◌, ◌<◌, ◌≤◌, List, length, Ok, Err, sym, refl, ap, ◌∙◌, arith}
use Rattle.shelf.specs.declared.refusals.Refusal.{Refusal}
use Rattle.shelf.specs.declared.refusals.Refusal.TheVariants.{BrokenVf}
use Rattle.vf.specs.declared.reading.Phase.{Phase}
use Rattle.vf.specs.declared.reading.Phase.TheVariants.{Definitions, Packets, Ending}
use Rattle.vf.specs.Files.{Reading, Step, walk, onward, item, ended}

module _ (names : List (List ℕ)) (s : List ℕ) where
  -- the rest of an item is passed over
  skipped : (k at n next left : ℕ) (t : Reading) → next ≡ at + k → n ≡ left + k → walk names s k at n t ≡ walk names s 0 next left t
  unfolding walk
  skipped zero at n next left t e f =
      let a : at ≡ next = omega arith in
      let b : n ≡ left = omega arith in
      rw (a, b)
  skipped (suc k) at zero next left t e f = absurd (omega arith)
  skipped (suc k) at (suc n) next left t e f = skipped k (suc at) n next left t (omega arith) (omega arith)

  pub turn : (at next : ℕ) (t u : Reading) → (u, Ok next) ≡ item names s at t → at < next → next ≤ length s → walk names s 0 at (length s - at) t ≡ walk names s 0 next (length s - next) u
  unfolding walk
  turn at next t u e lt le =
      let n = length s - at - 1 in
      let f : length s - at ≡ suc n = omega arith in
      rw f (ap (λ (x : Step). onward at x (λ k v. walk names s k (suc at) n v)) (sym e) ∙ skipped (next - suc at) (suc at) n next (length s - next) u (omega arith) (omega arith))

  pub broke : (at : ℕ) (t u : Reading) (r : Refusal) → (u, Err r) ≡ item names s at t → at < length s → walk names s 0 at (length s - at) t ≡ Err r
  unfolding walk
  broke at t u r e lt =
      let n = length s - at - 1 in
      let f : length s - at ≡ suc n = omega arith in
      rw f (ap (λ (x : Step). onward at x (λ k v. walk names s k (suc at) n v)) (sym e))

  pub done : (at : ℕ) (t : Reading) → length s ≤ at → walk names s 0 at (length s - at) t ≡ ended at t t.phase
  unfolding walk
  done at t past =
      let f : length s - at ≡ 0 = omega arith in
      rw f

pub unfinished : (at : ℕ) (t : Reading) (p : Phase) → (p ≡ Ending → ⊥) → ended at t p ≡ Err (BrokenVf at)
unfinished at t Definitions h = refl
unfinished at t Packets h = refl
unfinished at t Ending h = absurd (h refl)
