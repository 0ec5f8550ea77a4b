-- Two tests in one walk are one walk, and another up to where the first stopped; so windows add up. Assumes nothing.
use Rattle.std.proofs.Common.{◌≡◌, ℕ, zero, suc, ◌+◌, ◌-◌, ◌<◌, ◌≤◌, Bool, true, false, cond, not, ◌&&◌, ◌||◌, eqb, ltb, leb, List, [], length, get_or, Some, None, Ok, Err, Option, sym, refl, ap, ◌∙◌, arith}
use Rattle.std.proofs.Math.Bool.{or-false}
use Rattle.std.proofs.lemmas.Bool.{true≢false, eqb-true}
use Rattle.std.proofs.lemmas.Bool.Decides.{nat_tests}
use Rattle.std.specs.Option.{option_map}
use Rattle.commands.specs.declared.parts.Definition.{Definition}
use Rattle.commands.specs.Shapes.{defines}
use Rattle.document.specs.declared.entries.Entries.{Entries}
use Rattle.document.specs.Entries.{Turns}
use Rattle.shelf.specs.declared.refusals.Refusal.{Refusal}
use Rattle.document.specs.Fonts.{defined_at, entry_at, number_by, member, used, noted, first_of, fair, unlawful, first_unlawful}
use Rattle.document.specs.Legal.{placed}
use Rattle.document.specs.Windows.{below, again, again_by, used_below, within, within_by, unfair, wrong, stop_of, stop_at}
use Rattle.document.proofs.Walks.{Walked, walk_on, walk_hit, walk_end, turn-number, at_least, before, same_first}

abbrev or_else : Option ℕ → Option ℕ → Option ℕ
or_else None b = b
or_else (Some x) b = Some x

module _ (p r pr : ℕ → List ℕ → Bool) (both : (at : ℕ) (ns : List ℕ) → pr at ns ≡ (p at ns || r at ns)) (bs : List ℕ) where
  -- at a command: b and c are the two tests
  join-here : (b c : Bool) (at s : ℕ) (ns : List ℕ) (o u : Option ℕ) → c ≡ r at ns → (o ≡ Some s → suc at ≤ s) → cond b (Some at) o ≡ Some s
      → (o ≡ Some s → u ≡ or_else (first_of r bs (suc at) (s - suc at) ((entry_at bs at).span - 1) (noted bs at ns)) (Some s))
      → cond (b || c) (Some at) u ≡ or_else (first_of r bs at (s - at) 0 ns) (Some s)
  unfolding first_of
  join-here true c at s ns o u k h e i = let z : at ≡ s = cc in let y : s - at ≡ 0 = omega arith in rw (y, z)
  join-here false true at s ns o u k h e i =
      let g : suc at ≤ s = h e in
      let f : s - at ≡ suc (s - suc at) = omega arith in
      rw (f, ← k)
  join-here false false at s ns o u k h e i =
      let g : suc at ≤ s = h e in
      let f : s - at ≡ suc (s - suc at) = omega arith in
      rw (f, ← k) (i e)

  join-some : (at left skip : ℕ) (ns : List ℕ) (s : ℕ) → first_of p bs at left skip ns ≡ Some s → first_of pr bs at left skip ns ≡ or_else (first_of r bs at (s - at) skip ns) (Some s)
  unfolding first_of
  join-some at zero skip ns s e = cc
  join-some at (suc l) (suc k) ns s e =
      let g : suc at ≤ s = at_least p bs (suc at) l k ns s e in
      let f : s - at ≡ suc (s - suc at) = omega arith in
      rw f (join-some (suc at) l k ns s e)
  join-some at (suc l) zero ns s e =
      rw (both at ns) (join-here (p at ns) (r at ns) at s ns _ _ refl (at_least p bs (suc at) l ((entry_at bs at).span - 1) (noted bs at ns) s) e (join-some (suc at) l ((entry_at bs at).span - 1) (noted bs at ns) s))

  none-step : (b c : Bool) (at : ℕ) (o u v : Option ℕ) → cond b (Some at) o ≡ None → (o ≡ None → u ≡ v) → cond (b || c) (Some at) u ≡ cond c (Some at) v
  none-step true c at o u v e i = cc
  none-step false true at o u v e i = refl
  none-step false false at o u v e i = i e

  join-none : (at left skip : ℕ) (ns : List ℕ) → first_of p bs at left skip ns ≡ None → first_of pr bs at left skip ns ≡ first_of r bs at left skip ns
  unfolding first_of
  join-none at zero skip ns e = refl
  join-none at (suc l) (suc k) ns e = join-none (suc at) l k ns e
  join-none at (suc l) zero ns e = rw (both at ns) (none-step (p at ns) (r at ns) at _ _ _ e (join-none (suc at) l ((entry_at bs at).span - 1) (noted bs at ns)))

  stop_else : (to s : ℕ) (x : Option ℕ) → stop_of to (or_else x (Some s)) ≡ stop_of s x
  stop_else to s None = refl
  stop_else to s (Some y) = refl

  join_by : (from to : ℕ) (o : Option ℕ) → first_of p bs from (to - from) 0 [] ≡ o → stop_at pr bs from to ≡ stop_at r bs from (stop_of to o)
  join_by from to None e = ap (stop_of to) (join-none from (to - from) 0 [] e)
  join_by from to (Some s) e = ap (stop_of to) (join-some from (to - from) 0 [] s e) ∙ stop_else to s (first_of r bs from (s - from) 0 [])

  join : (from to stop : ℕ) → stop ≡ stop_at p bs from to → stop_at r bs from stop ≡ stop_at pr bs from to
  join from to stop e = rw e (sym (join_by from to (first_of p bs from (to - from) 0 []) refl))

-- a limit is lo or above it
abbrev Above : ℕ → Option ℕ → Type 0
Above lo None = Unit {0}
Above lo (Some hi) = lo ≤ hi

-- a wider range of numbers is the narrower one and the rest
wider_by : (fine m : Bool) (n lo : ℕ) (hi : Option ℕ) → Above lo hi → (not fine || (below hi n && m)) ≡ ((not fine || (ltb n lo && m)) || (leb lo n && (below hi n && m)))
wider_by fine m n lo None h = grind (arith, nat_tests)
wider_by fine m n lo (Some k) h = grind (arith, nat_tests)

wider-number : (fine : Bool) (o : Option ℕ) (ns : List ℕ) (lo : ℕ) (hi : Option ℕ) → Above lo hi → (not fine || used_below hi o ns) ≡ ((not fine || used_below (Some lo) o ns) || again_by lo hi o ns)
wider-number true None ns lo hi h = refl
wider-number false None ns lo hi h = refl
wider-number fine (Some n) ns lo hi h = wider_by fine (member n ns) n lo hi h

not-both : (b : Bool) (o : Option ℕ) (ns : List ℕ) (lo : ℕ) (hi : Option ℕ) (x y : Bool) → (b ≡ true → o ≡ None) → y ≡ (x || again_by lo hi o ns) → cond b false y ≡ (cond b false x || again_by lo hi o ns)
not-both true o ns lo hi x y h e = rw (h refl)
not-both false o ns lo hi x y h e = e

-- a 138 is no definition
nop-defines : (bs : List ℕ) (at : ℕ) → eqb (get_or bs at 0) 138 ≡ true → (entry_at bs at).number ≡ None
unfolding entry_at defined_at
nop-defines bs at e = let f : get_or bs at 0 ≡ 138 = eqb-true (get_or bs at 0) 138 e in rw f

wider : (bs : List ℕ) (lo : ℕ) (hi : Option ℕ) → Above lo hi → (at : ℕ) (ns : List ℕ) → wrong bs hi at ns ≡ (wrong bs (Some lo) at ns || again bs lo hi at ns)
unfolding wrong again
wider bs lo hi h at ns =
    not-both (eqb (get_or bs at 0) 138) (entry_at bs at).number ns lo hi _ _ (nop-defines bs at) (wider-number (fair (defined_at bs at)) (entry_at bs at).number ns lo hi h)

none_below_0 : (o : Option ℕ) (ns : List ℕ) → used_below (Some 0) o ns ≡ false
none_below_0 None ns = refl
none_below_0 (Some n) ns = grind (arith, nat_tests)

pub wrong_0 : (bs : List ℕ) (at : ℕ) (ns : List ℕ) → wrong bs (Some 0) at ns ≡ unfair bs at
unfolding wrong
wrong_0 bs at ns = rw (none_below_0 (entry_at bs at).number ns, or-false (not (fair (defined_at bs at))))

-- the walk past fair commands
module _ (s t u : Entries) (w : Walked (wrong s.front.now (Some 0)) s t) (x : ℕ × Option Definition) (turned : Turns t x u) where
  is_wrong : (b : Bool) → b ≡ unfair s.front.now x.0 → b ≡ wrong s.front.now (Some 0) t.at w.0
  is_wrong b h = h ∙ ap (unfair s.front.now) turned.place ∙ sym (wrong_0 s.front.now t.at w.0)

  pub unfair_here : true ≡ unfair s.front.now x.0 → x.0 ≡ stop_at (wrong s.front.now (Some 0)) s.front.now s.at s.to
  unfair_here h = ap (stop_of s.to) (walk_hit _ s t u w.0 w.1 x turned (is_wrong true h))

  pub fair_on : false ≡ unfair s.front.now x.0 → Walked (wrong s.front.now (Some 0)) s u
  fair_on h = (noted s.front.now t.at w.0, walk_on _ s t u w.0 w.1 x turned (is_wrong false h))

pub fair_all : (s t : Entries) → Walked (wrong s.front.now (Some 0)) s t → t.to ≤ t.at → s.to ≡ stop_at (wrong s.front.now (Some 0)) s.front.now s.at s.to
fair_all s t w le = ap (stop_of s.to) (walk_end _ s t w.0 w.1 le)

-- a number outside the range: none there
module _ (bs : List ℕ) (lo : ℕ) where
  within_by_lem : (at : ℕ) (hi o : Option ℕ) (ns : List ℕ) → o ≡ (entry_at bs at).number → false ≡ within_by lo hi o → false ≡ within bs lo hi at ns
  unfolding within
  within_by_lem at hi o ns is h = h ∙ ap (within_by lo hi) is

-- the walk for the least number
module _ (s t u : Entries) (lo : ℕ) (hi : Option ℕ) (w : Walked (within s.front.now lo hi) s t) (x : ℕ × Option Definition) (turned : Turns t x u) where
  pub least_on : (o : Option ℕ) → o ≡ number_by (option_map defines x.1) → false ≡ within_by lo hi o → Walked (within s.front.now lo hi) s u
  least_on o is h =
      let no : false ≡ within s.front.now lo hi t.at w.0 = within_by_lem s.front.now lo t.at hi o w.0 (is ∙ turn-number s t u x turned w.1.front) h in
      (noted s.front.now t.at w.0, walk_on _ s t u w.0 w.1 x turned no)

pub least-all : (s t : Entries) (lo : ℕ) (hi : Option ℕ) → Walked (within s.front.now lo hi) s t → t.to ≤ t.at → first_of (within s.front.now lo hi) s.front.now s.at (s.to - s.at) 0 [] ≡ None
least-all s t lo hi w le = sym (walk_end _ s t w.0 w.1 le)

-- one window more
pub window_more : (bs : List ℕ) (from to lo w stop r : ℕ) → stop ≡ stop_at (wrong bs (Some lo)) bs from to → r ≡ stop_at (again bs lo (Some (lo + w))) bs from stop → r ≡ stop_at (wrong bs (Some (lo + w))) bs from to
window_more bs from to lo w stop r e f = f ∙ join (wrong bs (Some lo)) (again bs lo (Some (lo + w))) (wrong bs (Some (lo + w))) (wider bs lo (Some (lo + w)) (omega arith)) bs from to stop e

-- what does not occur does not recur
fewer-step : (b c : Bool) (at : ℕ) (o u : Option ℕ) → (c ≡ true → b ≡ true) → cond b (Some at) o ≡ None → (o ≡ None → u ≡ None) → cond c (Some at) u ≡ None
fewer-step true c at o u h e i = cc
fewer-step false true at o u h e i = absurd (true≢false (sym (h refl)))
fewer-step false false at o u h e i = i e

fewer : (p r : ℕ → List ℕ → Bool) → ((at : ℕ) (ns : List ℕ) → r at ns ≡ true → p at ns ≡ true) → (bs : List ℕ) (at left skip : ℕ) (ns : List ℕ) → first_of p bs at left skip ns ≡ None → first_of r bs at left skip ns ≡ None
unfolding first_of
fewer p r h bs at zero skip ns e = refl
fewer p r h bs at (suc l) (suc k) ns e = fewer p r h bs (suc at) l k ns e
fewer p r h bs at (suc l) zero ns e = fewer-step (p at ns) (r at ns) at _ _ (h at ns) e (fewer p r h bs (suc at) l ((entry_at bs at).span - 1) (noted bs at ns))

again-within : (a b m : Bool) → (a && (b && m)) ≡ true → (a && b) ≡ true
again-within a b m h = grind (arith, nat_tests)

again-within-number : (lo : ℕ) (hi o : Option ℕ) (ns : List ℕ) → again_by lo hi o ns ≡ true → within_by lo hi o ≡ true
again-within-number lo hi None ns h = h
again-within-number lo hi (Some n) ns h = again-within (leb lo n) (below hi n) (member n ns) h

again-occurs : (bs : List ℕ) (lo : ℕ) (hi : Option ℕ) (at : ℕ) (ns : List ℕ) → again bs lo hi at ns ≡ true → within bs lo hi at ns ≡ true
unfolding again within
again-occurs bs lo hi at ns = again-within-number lo hi (entry_at bs at).number ns

-- a range without numbers changes nothing
pub window_clear : (bs : List ℕ) (from to lo : ℕ) (hi : Option ℕ) (stop : ℕ) → Above lo hi → stop ≡ stop_at (wrong bs (Some lo)) bs from to
    → first_of (within bs lo hi) bs from (stop - from) 0 [] ≡ None → stop ≡ stop_at (wrong bs hi) bs from to
window_clear bs from to lo hi stop h e f =
    let g : first_of (again bs lo hi) bs from (stop - from) 0 [] ≡ None =
    fewer (within bs lo hi) (again bs lo hi) (again-occurs bs lo hi) bs from (stop - from) 0 [] f in
    ap (stop_of stop) (sym g) ∙ join (wrong bs (Some lo)) (again bs lo hi) (wrong bs hi) (wider bs lo hi h) bs from to stop e

-- so a window from the next number on is one more, in a walk of the same bytes from the same place
pub window_next : (bs front : List ℕ) (from at to lo n w stop r : ℕ) → front ≡ bs → at ≡ from → stop ≡ stop_at (wrong bs (Some lo)) bs from to → lo ≤ n
    → first_of (within front lo (Some n)) front at (stop - at) 0 [] ≡ None → r ≡ stop_at (again front n (Some (n + w))) front at stop
    → r ≡ stop_at (wrong bs (Some (n + w))) bs from to
window_next bs front from at to lo n w stop r e k h le none more =
    let f : first_of (within bs lo (Some n)) bs from (stop - from) 0 [] ≡ None = rw (e, k) at none in
    let g : r ≡ stop_at (again bs n (Some (n + w))) bs from stop = rw (e, k) at more in
    window_more bs from to n w stop r (window_clear bs from to lo (Some n) stop le h f) g

-- no limit is none
unlimited_number : (o : Option ℕ) (ns : List ℕ) → used_below None o ns ≡ used o ns
unlimited_number None ns = refl
unlimited_number (Some n) ns = refl

unlimited : (bs : List ℕ) (at : ℕ) (ns : List ℕ) → wrong bs None at ns ≡ unlawful bs at ns
unfolding wrong unlawful
unlimited bs at ns = rw (unlimited_number (entry_at bs at).number ns)

-- where no number is left from lo on, all are judged
pub all-judged : (bs : List ℕ) (from to lo stop : ℕ) → stop ≡ stop_at (wrong bs (Some lo)) bs from to
    → first_of (within bs lo None) bs from (stop - from) 0 [] ≡ None → stop ≡ stop_at (unlawful bs) bs from to
all-judged bs from to lo stop e f =
    window_clear bs from to lo None stop tt e f ∙ ap (stop_of to) (same_first (wrong bs None) (unlawful bs) bs (unlimited bs) from (to - from) 0 [])

-- the place found, or none
place-by : (to s : ℕ) (o : Option ℕ) (f : ℕ → Refusal) → ((x : ℕ) → o ≡ Some x → x < to) → s ≡ stop_of to o
    → (s < to → Err (f s) ≡ placed f o) × (to ≤ s → Ok tt ≡ placed f o)
place-by to s None f h e = ((λ lt. absurd (omega arith)), (λ le. refl))
place-by to s (Some x) f h e = let lt : x < to = h x refl in (λ k. rw e, λ le. absurd (omega arith))

inside : (bs : List ℕ) (from x : ℕ) → first_of (unlawful bs) bs from (length bs - from) 0 [] ≡ Some x → x < length bs
inside bs from x g =
    let least = at_least (unlawful bs) bs from (length bs - from) 0 [] x g in
    let most = before (unlawful bs) bs from (length bs - from) 0 [] x g in
    omega arith

placed_both : (bs : List ℕ) (from s : ℕ) (f : ℕ → Refusal) → s ≡ stop_at (unlawful bs) bs from (length bs)
    → (s < length bs → Err (f s) ≡ placed f (first_unlawful bs from)) × (length bs ≤ s → Ok tt ≡ placed f (first_unlawful bs from))
unfolding first_unlawful
placed_both bs from s f stop = place-by (length bs) s (first_of (unlawful bs) bs from (length bs - from) 0 []) f (inside bs from) stop

-- the same in a walk of these bytes
module _ (bs front : List ℕ) (from at to s : ℕ) (f : ℕ → Refusal) (same : front ≡ bs) (start : at ≡ from) (whole : to ≡ length front) (stop : s ≡ stop_at (unlawful front) front at to) where
  stop_there : s ≡ stop_at (unlawful bs) bs from (length bs)
  stop_there = rw (whole, start, same) at stop

  pub placed-here : s < to → Err (f s) ≡ placed f (first_unlawful bs from)
  placed-here lt = (placed_both bs from s f stop_there).0 (rw (whole, same) at lt)

  pub placed-none : to ≤ s → Ok tt ≡ placed f (first_unlawful bs from)
  placed-none le = (placed_both bs from s f stop_there).1 (rw (whole, same) at le)
