-- The definitions of a postamble counted one by one. Assumes nothing.
use Rattle.std.proofs.Common.{◌≡◌, ℕ, zero, suc, ◌+◌, ◌-◌, ◌<◌, ◌≤◌, true, false, ◌⊎◌, inl, inr, min, List, length, take, None, Some, Option, refl, sym, ap, ap₂, ◌∙◌, arith, length-take}
use Rattle.std.specs.Option.{is_some, option_map}
use Rattle.std.proofs.lemmas.Bool.{cases_lt}
use Rattle.commands.specs.Definitions.{Defined}
use Rattle.commands.specs.declared.parts.Definition.{Definition}
use Rattle.commands.specs.Shapes.{defines}
use Rattle.document.specs.declared.entries.Entries.{Entries}
use Rattle.document.specs.Entries.{Turns}
use Rattle.document.specs.Fonts.{defined_at, entry_at, span_by, wide}
use Rattle.copying.specs.Counts.{defined_from, defined_in, one_if}

module _ (bs : List ℕ) where
  skips : (at left k : ℕ) → defined_from bs at left k ≡ defined_from bs (at + k) (left - k) 0
  unfolding defined_from
  skips at zero k = let e : 0 - k ≡ 0 = omega arith in rw e refl
  skips at (suc left) zero = let e : suc left - 0 ≡ suc left = omega arith in let f : at + 0 ≡ at = omega arith in rw (e, f) refl
  skips at (suc left) (suc k) =
      let e : suc left - suc k ≡ left - k = omega arith in
      let f : at + suc k ≡ suc at + k = omega arith in
      rw (e, f) (skips (suc at) left k)

  next : (at k left : ℕ) → k ≡ suc left → defined_from bs at k 0 ≡ one_if (defined_at bs at) + defined_from bs (suc at) left ((entry_at bs at).span - 1)
  unfolding defined_from
  next at k left e = rw e refl

  none-left : (from : ℕ) → length bs ≤ from → defined_in bs from ≡ 0
  unfolding defined_from
  none-left from h = let e : length bs - from ≡ 0 = omega arith in rw e refl

  some-span : (o : Option Defined) (w : ℕ) → 0 < span_by w o
  some-span None w = omega arith
  some-span (Some d) w = omega arith

  span : (at : ℕ) → 0 < (entry_at bs at).span
  unfolding entry_at
  span at = some-span (defined_at bs at) (wide bs at)

  -- past a command
  past : (at : ℕ) → at < length bs → defined_in bs at ≡ one_if (defined_at bs at) + defined_in bs (at + (entry_at bs at).span)
  past at lt =
      let s = (entry_at bs at).span in
      let some = span at in
      let left = length bs - at - 1 in
      let a : suc at + (s - 1) ≡ at + s = omega arith in
      let b : left - (s - 1) ≡ length bs - (at + s) = omega arith in
      let on : defined_from bs (suc at) left (s - 1) ≡ defined_in bs (at + s) = skips (suc at) left (s - 1) ∙ ap₂ (λ (x y : ℕ). defined_from bs x y 0) a b in
      next at (length bs - at) left (omega arith) ∙ ap (λ n. one_if (defined_at bs at) + n) on

-- so many definitions have come, and the others follow
pub record SoFar (s t : Entries) (count : ℕ) : Type 0 where
  pub front : t.front.now ≡ s.front.now
  pub to : t.to ≡ s.to
  pub behind : count + s.at ≤ t.at
  pub total : count + defined_in s.front.now t.at ≡ defined_in s.front.now s.at

pub is-one : (d : Option Definition) → is_some d ≡ true → one_if (option_map defines d) ≡ 1
is-one (Some d) e = refl
is-one None e = absurd (let z : ◌≡◌ {A = ℕ} 0 1 = cc in omega arith)

pub is-none : (d : Option Definition) → is_some d ≡ false → one_if (option_map defines d) ≡ 0
is-none None e = refl
is-none (Some d) e = absurd (let z : ◌≡◌ {A = ℕ} 0 1 = cc in omega arith)

module _ (s t u : Entries) (count : ℕ) (far : SoFar s t count) (x : ℕ × Option Definition) (turned : Turns t x u) (ends : s.to ≡ length s.front.now) where
  inside : t.at < length s.front.now
  inside = let b = turned.before in omega (arith, far.to, ends)

  defined-is : option_map defines x.1 ≡ defined_at s.front.now t.at
  defined-is = turned.defined ∙ ap (λ bs. defined_at bs t.at) far.front

  at-is : u.at ≡ t.at + (entry_at s.front.now t.at).span
  at-is = turned.behind ∙ ap (λ bs. t.at + (entry_at bs t.at).span) far.front

  pub one-more : (n more : ℕ) → one_if (option_map defines x.1) ≡ n → n ≤ 1 → more ≡ count + n → SoFar s u more
  one-more n more is small sum =
      let p = past s.front.now t.at inside in
      let total = far.total in
      let behind = far.behind in
      let some = span s.front.now t.at in
      let one : one_if (defined_at s.front.now t.at) ≡ n = sym (ap one_if defined-is) ∙ is in
      let there : defined_in s.front.now u.at ≡ defined_in s.front.now (t.at + (entry_at s.front.now t.at).span) = ap (defined_in s.front.now) at-is in
      record {
        front = turned.front ∙ far.front;
        to = turned.to ∙ far.to;
        behind = omega (arith, at-is);
        total = omega (arith, p, one, there);
      }

pub at-end : (s t : Entries) (count : ℕ) → SoFar s t count → s.to ≡ length s.front.now → t.to ≤ t.at → count ≡ defined_in s.front.now s.at
at-end s t count far ends le =
    let total = far.total in
    let none = none-left s.front.now t.at (omega (arith, far.to, ends)) in
    omega (arith, none)

past-top : (bs : List ℕ) (from top : ℕ) → (from < top) ⊎ (top ≤ from) → length bs ≤ top → defined_in bs (min from top) ≡ defined_in bs from
past-top bs from top (inl lt) h = let e : min from top ≡ from = omega arith in rw e refl
past-top bs from top (inr le) h = none-left bs (min from top) (omega arith) ∙ sym (none-left bs from (omega arith))

-- a place that is no number is past the end
pub within-top : (bytes : List ℕ) (end from top : ℕ) → length bytes ≤ top → defined_in (take end bytes) (min from top) ≡ defined_in (take end bytes) from
within-top bytes end from top h = past-top (take end bytes) from top (cases_lt from top) (omega (arith, length-take end bytes))
