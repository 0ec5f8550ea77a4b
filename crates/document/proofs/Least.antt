-- The least number from one on, by the numbers that a walk gives. Assumes nothing.
use Rattle.std.proofs.Common.{◌≡◌, ℕ, suc, ◌-◌, Bool, true, false, cond, ◌&&◌, ltb, leb, List, [], ◌∷◌, length, Some, None, Option, IfSome, MatchOption, sym, refl, ◌∙◌, subst, arith}
use Rattle.std.specs.Iterator.{Yields}
use Rattle.std.specs.Iterator.Runs.{Run, YieldsRun, AllItems, AnyItem}
use Rattle.std.specs.List.{cons_option, filter_map, slice_get}
use Rattle.std.specs.Option.{option_map}
use Rattle.std.specs.Ordering.{is_lt, nat_cmp}
use Rattle.std.proofs.lemmas.Bool.Decides.{nat_tests}
use Rattle.commands.specs.declared.parts.Definition.{Definition}
use Rattle.commands.specs.Shapes.{defines}
use Rattle.document.specs.declared.entries.Entries.{Entries}
use Rattle.document.specs.Entries.{GivesEntry}
use Rattle.document.specs.Fonts.{number_by, first_of}
use Rattle.document.specs.Windows.{below, from_on, within, within_by}
use Rattle.document.proofs.Walks.{Walked, walk_start}
use Rattle.document.proofs.Joins.{least_on, least-all}

-- what the closure gives of a command
abbrev pub number_from : ℕ → ℕ × Option Definition → Option ℕ
number_from lo x = from_on lo (number_by (option_map defines x.1))

-- no number is below a limit
abbrev Reach : Option ℕ → List ℕ → Type 0
Reach hi [] = Unit {0}
Reach hi (n ∷ ns) = (below hi n ≡ false) × Reach hi ns

one_tested : (b c : Bool) (n : ℕ) (hi : Option ℕ) (ns : List ℕ) → c ≡ below hi n → Reach hi (cons_option (cond b (Some n) None) ns) → (false ≡ (b && c)) × Reach hi ns
one_tested true c n hi ns e h = (sym (e ∙ h.0), h.1)
one_tested false c n hi ns e h = (refl, h)

one_less : (lo : ℕ) (hi o : Option ℕ) (ns : List ℕ) → Reach hi (cons_option (from_on lo o) ns) → (false ≡ within_by lo hi o) × Reach hi ns
one_less lo hi None ns h = (refl, h)
one_less lo hi (Some n) ns h = one_tested (leb lo n) (below hi n) n hi ns refl h

-- along the commands that a walk gave
along : (s t u : Entries) (lo : ℕ) (hi : Option ℕ) (xs : List (ℕ × Option Definition)) → Walked (within s.front.now lo hi) s t → Yields GivesEntry t xs u
    → Reach hi (filter_map (number_from lo) xs) → Walked (within s.front.now lo hi) s u
along s t u lo hi [] w y h = subst (λ z. Walked (within s.front.now lo hi) s z) y w
along s t u lo hi (x ∷ xs) w y h =
    let k = one_less lo hi (number_by (option_map defines x.1)) (filter_map (number_from lo) xs) h in
    along s y.0 u lo hi xs (least_on s t y.0 lo hi w x y.1 _ refl k.0) y.2 k.1

-- all numbers at their places are no less than the least
reach_all : (m : ℕ) (ns : List ℕ) (at : ℕ → Option ℕ) → ((k : ℕ) → at k ≡ slice_get ns k) → ((k : ℕ) → IfSome (at k) (λ n. is_lt (nat_cmp n m) ≡ false)) → Reach (Some m) ns
reach_all m [] at same all = tt
reach_all m (n ∷ ns) at same all =
    let h : is_lt (nat_cmp n m) ≡ false = rw same at (all 0) in
    let k : ltb n m ≡ false = grind (arith, nat_tests) in
    (k, reach_all m ns (λ i. at (suc i)) (λ i. same (suc i)) (λ i. all (suc i)))

reach_none : (ns : List ℕ) → length ns ≡ 0 → Reach None ns
reach_none [] e = tt
reach_none (n ∷ ns) e = absurd (omega arith)

module _ {S : Type 0} {steps : S → Option ℕ → S → Type 0} (p : Run steps) (q : Run GivesEntry) (s : Entries) (lo : ℕ) (r : Option ℕ)
    (found : MatchOption r (p.len ≡ 0) (λ m. AnyItem p (λ x. x ≡ m) × AllItems p (λ x. is_lt (nat_cmp x m) ≡ false))) where
  reached : (o : Option ℕ) → MatchOption o (p.len ≡ 0) (λ m. AnyItem p (λ x. x ≡ m) × AllItems p (λ x. is_lt (nat_cmp x m) ≡ false)) → Reach o p.items
  unfolding YieldsRun
  reached None e = reach_none p.items (sym p.long ∙ e)
  reached (Some m) h = reach_all m p.items p.at p.gave.1 h.1

  -- no number is below the least of those that the walk gave
  pub least_is : q.from ≡ s → q.whole ≡ true → p.items ≡ filter_map (number_from lo) q.items → first_of (within s.front.now lo r) s.front.now s.at (s.to - s.at) 0 [] ≡ None
  unfolding YieldsRun
  least_is from whole items =
      let g = q.gave.0 in
      let reach : Reach r (filter_map (number_from lo) q.items) = subst (Reach r) items (reached r found) in
      least-all s g.0 lo r (along s q.from g.0 lo r q.items ([], walk_start _ s q.from from) g.1 reach) (g.2 whole).1
