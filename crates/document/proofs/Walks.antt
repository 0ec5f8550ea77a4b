-- A walk over the commands of the postamble: one command on, a command at which it stops, and its end. Assumes nothing.
use Rattle.std.proofs.Common.{◌≡◌, ℕ, zero, suc, ◌+◌, ◌-◌, ◌<◌, ◌≤◌, Bool, true, false, cond, List, [], length, Some, None, Option, sym, refl, ap, ◌∙◌, arith}
use Rattle.std.specs.Option.{option_map, option_map_or}
use Rattle.commands.specs.declared.parts.Definition.{Definition}
use Rattle.commands.specs.Shapes.{defines}
use Rattle.commands.specs.Definitions.{Defined, definition_at}
use Rattle.document.specs.declared.entries.Entries.{Entries}
use Rattle.document.specs.Fonts.{Entry, wide, defined_at, entry_at, number_by, span_by, noted, noted_by, first_of}
use Rattle.document.specs.Entries.{Turns}

module _ (p : ℕ → List ℕ → Bool) (bs : List ℕ) where
  skips : (at left k : ℕ) (ns : List ℕ) → first_of p bs at left k ns ≡ first_of p bs (at + k) (left - k) 0 ns
  unfolding first_of
  skips at zero k ns = let e : 0 - k ≡ 0 = omega arith in rw e
  skips at (suc left) zero ns = let e : suc left - 0 ≡ suc left = omega arith in let f : at + 0 ≡ at = omega arith in rw (e, f)
  skips at (suc left) (suc k) ns =
      let e : suc left - suc k ≡ left - k = omega arith in
      let f : at + suc k ≡ suc at + k = omega arith in
      rw (e, f) (skips (suc at) left k ns)

  next : (at k left : ℕ) (ns : List ℕ) → k ≡ suc left → false ≡ p at ns → first_of p bs at k 0 ns ≡ first_of p bs (suc at) left ((entry_at bs at).span - 1) (noted bs at ns)
  unfolding first_of
  next at k left ns e h = rw (e, ← h)

  here : (at k left : ℕ) (ns : List ℕ) → k ≡ suc left → true ≡ p at ns → Some at ≡ first_of p bs at k 0 ns
  unfolding first_of
  here at k left ns e h = rw (e, ← h)

  -- past the command e at a place
  pub turn : (to at : ℕ) (e : Entry) (ns : List ℕ) → e ≡ entry_at bs at → at < to → 0 < e.span → false ≡ p at ns
      → first_of p bs (at + e.span) (to - (at + e.span)) 0 (noted_by e.number ns) ≡ first_of p bs at (to - at) 0 ns
  turn to at e ns is lt some h =
      let s : e.span ≡ (entry_at bs at).span = ap (λ (x : Entry). x.span) is in
      let a : to - at - 1 - ((entry_at bs at).span - 1) ≡ to - (at + e.span) = omega arith in
      let b : suc at + ((entry_at bs at).span - 1) ≡ at + e.span = omega arith in
      let n : noted_by e.number ns ≡ noted bs at ns = ap (λ x. noted_by x.number ns) is in
      let on : first_of p bs (suc at) (to - at - 1) ((entry_at bs at).span - 1) (noted bs at ns) ≡ first_of p bs (at + e.span) (to - (at + e.span)) 0 (noted bs at ns) =
      skips (suc at) (to - at - 1) ((entry_at bs at).span - 1) (noted bs at ns) ∙ (ap (λ x. first_of p bs x (to - at - 1 - ((entry_at bs at).span - 1)) 0 (noted bs at ns)) b ∙ ap (λ x. first_of p bs (at + e.span) x 0 (noted bs at ns)) a) in
      ap (first_of p bs (at + e.span) (to - (at + e.span)) 0) n ∙ sym (next at (to - at) (to - at - 1) ns (omega arith) h ∙ on)

  pub hit : (to at : ℕ) (ns : List ℕ) → at < to → true ≡ p at ns → Some at ≡ first_of p bs at (to - at) 0 ns
  hit to at ns lt h = here at (to - at) (to - at - 1) ns (omega arith) h

  pub miss : (to at : ℕ) (ns : List ℕ) → to ≤ at → None ≡ first_of p bs at (to - at) 0 ns
  unfolding first_of
  miss to at ns le = let e : to - at ≡ 0 = omega arith in rw e

  least_step : (b : Bool) (at s : ℕ) (o : Option ℕ) → (o ≡ Some s → suc at ≤ s) → cond b (Some at) o ≡ Some s → at ≤ s
  least_step true at s o h e = let z : at ≡ s = cc in omega arith
  least_step false at s o h e = let z : suc at ≤ s = h e in omega arith

  -- where it stops is not before where it starts, and before its end
  pub at_least : (at left skip : ℕ) (ns : List ℕ) (s : ℕ) → first_of p bs at left skip ns ≡ Some s → at ≤ s
  unfolding first_of
  at_least at zero skip ns s e = cc
  at_least at (suc l) (suc k) ns s e = let h : suc at ≤ s = at_least (suc at) l k ns s e in omega arith
  at_least at (suc l) zero ns s e = least_step (p at ns) at s _ (at_least (suc at) l ((entry_at bs at).span - 1) (noted bs at ns) s) e

  before-step : (b : Bool) (at l s : ℕ) (o : Option ℕ) → (o ≡ Some s → s < suc at + l) → cond b (Some at) o ≡ Some s → s < at + suc l
  before-step true at l s o h e = let z : at ≡ s = cc in omega arith
  before-step false at l s o h e = let z : s < suc at + l = h e in omega arith

  pub before : (at left skip : ℕ) (ns : List ℕ) (s : ℕ) → first_of p bs at left skip ns ≡ Some s → s < at + left
  unfolding first_of
  before at zero skip ns s e = cc
  before at (suc l) (suc k) ns s e = let h : s < suc at + l = before (suc at) l k ns s e in omega arith
  before at (suc l) zero ns s e = before-step (p at ns) at l s _ (before (suc at) l ((entry_at bs at).span - 1) (noted bs at ns) s) e

module _ (p r : ℕ → List ℕ → Bool) (bs : List ℕ) where
  -- the same test, the same place
  pub same_first : ((at : ℕ) (ns : List ℕ) → p at ns ≡ r at ns) → (at left skip : ℕ) (ns : List ℕ) → first_of p bs at left skip ns ≡ first_of r bs at left skip ns
  unfolding first_of
  same_first h at zero skip ns = refl
  same_first h at (suc l) (suc k) ns = same_first h (suc at) l k ns
  same_first h at (suc l) zero ns = rw (h at ns, same_first h (suc at) l ((entry_at bs at).span - 1) (noted bs at ns))

-- a command has a byte or more
some_bytes : (w : ℕ) (o : Option Defined) → 0 < span_by w o
some_bytes w None = omega arith
some_bytes w (Some d) = omega arith

pub long_enough : (bs : List ℕ) (at : ℕ) → 0 < (entry_at bs at).span
unfolding entry_at
long_enough bs at = some_bytes _ (defined_at bs at)

-- how many bytes a command has, by the definition that was read
pub span-read : (w : ℕ) (d : Option Definition) → option_map_or (λ d. w + 15 + length d.name.now) d 1 ≡ span_by w (option_map defines d)
span-read w (Some d) = refl
span-read w None = refl

-- a turn, by the definition that was read
pub turns_at : (s : Entries) (w next : ℕ) (d : Option Definition) → s.at < s.to → w ≡ wide s.front.now s.at → option_map defines d ≡ definition_at s.front.now s.at w
    → next ≡ s.at + span_by w (option_map defines d) → Turns s (s.at, d) (record { front = s.front; at = next; to = s.to })
unfolding defined_at entry_at
turns_at s w next d lt width read behind =
    let e : option_map defines d ≡ definition_at s.front.now s.at (wide s.front.now s.at) = read ∙ ap (definition_at s.front.now s.at) width in
    record { before = lt; place = refl; defined = e; behind = behind ∙ ap (λ k. s.at + k) (ap (λ k. span_by k (option_map defines d)) width ∙ ap (span_by (wide s.front.now s.at)) e); front = refl; to = refl }

-- a walk that has come from s to t past these font numbers, while p has not held
pub record Walk (p : ℕ → List ℕ → Bool) (s t : Entries) (ns : List ℕ) : Type 0 where
  pub front : t.front.now ≡ s.front.now
  pub to : t.to ≡ s.to
  pub same : first_of p s.front.now t.at (s.to - t.at) 0 ns ≡ first_of p s.front.now s.at (s.to - s.at) 0 []

-- the same past some font numbers
abbrev pub Walked : (ℕ → List ℕ → Bool) → Entries → Entries → Type 0
Walked p s t = (ns : List ℕ) × Walk p s t ns

-- what a turn tells of the command at its place
module _ (s t u : Entries) (x : ℕ × Option Definition) (turned : Turns t x u) (front : t.front.now ≡ s.front.now) where
  pub turn-defined : option_map defines x.1 ≡ defined_at s.front.now t.at
  turn-defined = turned.defined ∙ ap (λ bs. defined_at bs t.at) front

  pub turn-number : number_by (option_map defines x.1) ≡ (entry_at s.front.now t.at).number
  unfolding entry_at
  turn-number = ap number_by turn-defined

module _ (p : ℕ → List ℕ → Bool) (s : Entries) where
  pub walk_start : (t : Entries) → t ≡ s → Walk p s t []
  walk_start t e = rw e (record { front = refl; to = refl; same = refl })

  module _ (t u : Entries) (ns : List ℕ) (w : Walk p s t ns) (x : ℕ × Option Definition) (turned : Turns t x u) where
    pub walk_on : false ≡ p t.at ns → Walk p s u (noted s.front.now t.at ns)
    walk_on h =
        let bs = s.front.now in
        let lt : t.at < s.to = omega (arith, turned.before, w.to) in
        let e : u.at ≡ t.at + (entry_at bs t.at).span = turned.behind ∙ ap (λ b. t.at + (entry_at b t.at).span) w.front in
        record {
          front = turned.front ∙ w.front;
          to = turned.to ∙ w.to;
          same = rw e (turn p bs s.to t.at (entry_at bs t.at) ns refl lt (long_enough bs t.at) h ∙ w.same);
        }

    pub walk_hit : true ≡ p t.at ns → Some x.0 ≡ first_of p s.front.now s.at (s.to - s.at) 0 []
    walk_hit h =
        let lt : t.at < s.to = omega (arith, turned.before, w.to) in
        ap Some turned.place ∙ hit p s.front.now s.to t.at ns lt h ∙ w.same

  pub walk_end : (t : Entries) (ns : List ℕ) → Walk p s t ns → t.to ≤ t.at → None ≡ first_of p s.front.now s.at (s.to - s.at) 0 []
  walk_end t ns w le = miss p s.front.now s.to t.at ns (omega (arith, w.to)) ∙ w.same
