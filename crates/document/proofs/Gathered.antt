-- The places of the definitions, gathered in a walk over the postamble's commands. Assumes nothing.
use Rattle.std.proofs.Common.{◌≡◌, ℕ, ◌+◌, ◌-◌, ◌<◌, ◌≤◌, Bool, true, false, cond, List, [], ◌∷◌, ◌++◌, length, Some, None, Option, slice_index_or, sym, refl, ap, ◌∙◌, arith}
use Rattle.std.specs.List.{All}
use Rattle.std.specs.List.Sorted.{IsNonDecreasing}
use Rattle.std.specs.Option.{option_map}
use Rattle.std.proofs.lemmas.List.Elements.{All-push}
use Rattle.std.proofs.lemmas.List.Sorted.{IsNonDecreasingBy-push}
use Rattle.commands.specs.declared.parts.Definition.{Definition}
use Rattle.commands.specs.Shapes.{defines as defined_by}
use Rattle.document.specs.declared.entries.Entries.{Entries}
use Rattle.document.specs.Entries.{Turns}
use Rattle.document.specs.Fonts.{entry_at, number_by, noted, has_number, defines, defined_in, font_from, first_of}
use Rattle.document.specs.Tables.{first_among}
use Rattle.document.proofs.Walks.{turn, hit, miss, long_enough, turn-number}

abbrev or_first : Option ℕ → Option ℕ → Option ℕ
or_first (Some p) o = Some p
or_first None o = o

or_none : (o : Option ℕ) → or_first o None ≡ o
or_none (Some p) = refl
or_none None = refl

or_or : (o u w : Option ℕ) → or_first (or_first o u) w ≡ or_first o (or_first u w)
or_or (Some p) u w = refl
or_or None u w = refl

test_or : (b : Bool) (p : ℕ) (o u : Option ℕ) → cond b (Some p) (or_first o u) ≡ or_first (cond b (Some p) o) u
test_or true p o u = refl
test_or false p o u = refl

-- one place more at the end
pub among-push : (bs : List ℕ) (n p : ℕ) (ps : List ℕ) → first_among bs n (ps ++ (p ∷ [])) ≡ or_first (first_among bs n ps) (cond (defines bs n p) (Some p) None)
unfolding first_among
among-push bs n p [] = refl
among-push bs n p (q ∷ ps) = rw (among-push bs n p ps) (test_or (defines bs n q) q (first_among bs n ps) (cond (defines bs n p) (Some p) None))

-- where font n is first defined, from a place on
abbrev from_here : List ℕ → ℕ → ℕ → ℕ → List ℕ → Option ℕ
from_here bs n to at ns = first_of (λ k ms. defines bs n k) bs at (to - at) 0 ns

-- the places gathered on the way from s to t
pub record Gathered (s t : Entries) (ps : List ℕ) : Type 0 where
  pub front : t.front.now ≡ s.front.now
  pub to : t.to ≡ s.to
  pub ns : List ℕ
  pub each : (n : ℕ) → or_first (first_among s.front.now n ps) (from_here s.front.now n s.to t.at ns) ≡ from_here s.front.now n s.to s.at []
  pub rising : IsNonDecreasing ps
  pub behind : All (λ p. p < t.at) ps
  pub low : All (λ p. p < 2147483648) ps

none_among : (bs : List ℕ) (n : ℕ) → first_among bs n [] ≡ None
unfolding first_among
none_among bs n = refl

pub gathered_start : (s t : Entries) → t ≡ s → Gathered s t []
gathered_start s t e = rw e (record {
  front = refl;
  to = refl;
  ns = [];
  each = λ n. rw (none_among s.front.now n) refl;
  rising = λ i j d le lt. absurd (omega arith);
  behind = λ k d lt. absurd (omega arith);
  low = λ k d lt. absurd (omega arith);
})

-- past the command at a place, whether it defines font n or not
past : (bs : List ℕ) (n to at next : ℕ) (ns : List ℕ) (b : Bool) → at < to → next ≡ at + (entry_at bs at).span → defines bs n at ≡ b
    → or_first (cond b (Some at) None) (from_here bs n to next (noted bs at ns)) ≡ from_here bs n to at ns
past bs n to at next ns true lt e h = hit (λ k ms. defines bs n k) bs to at ns lt (sym h)
past bs n to at next ns false lt e h = rw e (turn (λ k ms. defines bs n k) bs to at (entry_at bs at) ns refl lt (long_enough bs at) (sym h))

module _ (s t u : Entries) (ps : List ℕ) (g : Gathered s t ps) (x : ℕ × Option Definition) (turned : Turns t x u) where
  lt : t.at < s.to
  lt = omega (arith, turned.before, g.to)

  next : u.at ≡ t.at + (entry_at s.front.now t.at).span
  next = turned.behind ∙ ap (λ bs. t.at + (entry_at bs t.at).span) g.front

  onward : (n : ℕ) → or_first (cond (defines s.front.now n t.at) (Some t.at) None) (from_here s.front.now n s.to u.at (noted s.front.now t.at g.ns)) ≡ from_here s.front.now n s.to t.at g.ns
  onward n = past s.front.now n s.to t.at u.at g.ns (defines s.front.now n t.at) lt next refl

  farther : t.at ≤ u.at
  farther = omega (arith, next)

  -- a definition
  pub taken : t.at < 2147483648 → Gathered s u (ps ++ (t.at ∷ []))
  taken small = record {
    front = turned.front ∙ g.front;
    to = turned.to ∙ g.to;
    ns = noted s.front.now t.at g.ns;
    each = λ n. ap (λ o. or_first o (from_here s.front.now n s.to u.at (noted s.front.now t.at g.ns))) (among-push s.front.now n t.at ps)
        ∙ (or_or (first_among s.front.now n ps) _ _ ∙ (ap (or_first (first_among s.front.now n ps)) (onward n) ∙ g.each n));
    rising = IsNonDecreasingBy-push (λ p. p) ps t.at g.rising (λ d some. let a : slice_index_or ps (length ps - 1) d < t.at = g.behind (length ps - 1) d (omega arith) in omega (arith, a));
    behind = All-push (λ p. p < u.at) ps t.at (λ k d k_lt. let a : slice_index_or ps k d < t.at = g.behind k d k_lt in omega (arith, a, farther)) (omega (arith, next, long_enough s.front.now t.at));
    low = All-push (λ p. p < 2147483648) ps t.at g.low small;
  }

  -- no definition
  pub passed : None ≡ number_by (option_map defined_by x.1) → Gathered s u ps
  passed h = record {
    front = turned.front ∙ g.front;
    to = turned.to ∙ g.to;
    ns = noted s.front.now t.at g.ns;
    each = λ n. ap (or_first (first_among s.front.now n ps)) (rw (← no n) at (onward n)) ∙ g.each n;
    rising = g.rising;
    behind = λ k d k_lt. let a : slice_index_or ps k d < t.at = g.behind k d k_lt in omega (arith, a, farther);
    low = g.low;
  }
    where
      no : (n : ℕ) → false ≡ defines s.front.now n t.at
      no n = ap (has_number n) (h ∙ turn-number s t u x turned g.front)

-- all of them, at the end
pub gathered_all : (s t : Entries) (ps : List ℕ) → Gathered s t ps → s.to ≡ length s.front.now → t.to ≤ t.at → (n : ℕ) → defined_in s.front.now (first_among s.front.now n ps) ≡ font_from s.front.now s.at n
unfolding font_from
gathered_all s t ps g e le n =
    let a : None ≡ from_here s.front.now n s.to t.at g.ns = miss (λ k ms. defines s.front.now n k) s.front.now s.to t.at g.ns (omega (arith, g.to)) in
    rw (← e) (ap (defined_in s.front.now) (sym (or_none (first_among s.front.now n ps)) ∙ (ap (or_first (first_among s.front.now n ps)) a ∙ g.each n)))
