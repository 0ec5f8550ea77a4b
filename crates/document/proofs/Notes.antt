-- The table of a window: what one command does to it, and the walk that keeps it. Assumes nothing.
use Rattle.std.proofs.Common.{◌≡◌, ℕ, ◌+◌, ◌-◌, ◌≤◌, Bool, true, false, List, [], length, replicate, Some, Option, refl, ap, ◌∙◌, arith}
use Rattle.std.proofs.lemmas.List.{get_or-replicate}
use Rattle.std.specs.Option.{option_map}
use Rattle.commands.specs.declared.parts.Definition.{Definition}
use Rattle.commands.specs.Shapes.{defines}
use Rattle.document.specs.declared.entries.Entries.{Entries}
use Rattle.document.specs.Entries.{Turns}
use Rattle.document.specs.Fonts.{entry_at, noted, number_by}
use Rattle.document.specs.Windows.{Noted, Tells, again, again_by, stop_at, stop_of}
use Rattle.document.proofs.Walks.{Walk, walk_on, walk_hit, walk_end, turn-number}

-- the walk with its table
pub record Sofar (w : ℕ) (s : Entries) (lo : ℕ) (t : Entries) (seen : List Bool) : Type 0 where
  pub ns : List ℕ
  pub walk : Walk (again s.front.now lo (Some (lo + w))) s t ns
  pub full : length seen ≡ w
  pub table : Tells w lo seen ns

by_number : (bs : List ℕ) (lo : ℕ) (hi : Option ℕ) (at : ℕ) (o : Option ℕ) (ns : List ℕ) (r : Bool) → o ≡ (entry_at bs at).number → r ≡ again_by lo hi o ns → r ≡ again bs lo hi at ns
unfolding again
by_number bs lo hi at o ns r is h = h ∙ ap (λ x. again_by lo hi x ns) is

pub no_numbers : (w lo : ℕ) → Tells w lo (replicate w false) []
no_numbers w lo n a b = get_or-replicate w (n - lo) false false (omega arith)

module _ (w : ℕ) (s : Entries) (lo : ℕ) where
  module _ (t u : Entries) (seen : List Bool) (f : Sofar w s lo t seen) (x : ℕ × Option Definition) (turned : Turns t x u) (o : Option ℕ) (is : o ≡ number_by (option_map defines x.1)) where
    number_is : o ≡ (entry_at s.front.now t.at).number
    number_is = is ∙ turn-number s t u x turned f.walk.front

    pub onward : (after : List Bool) → length after ≡ length seen → Noted (length seen) lo o seen after false → Sofar w s lo u after
    onward after long h =
        let g = (rw f.full at h) f.ns f.table in
        record {
          ns = noted s.front.now t.at f.ns;
          walk = walk_on _ s t u f.ns f.walk x turned (by_number s.front.now lo (Some (lo + w)) t.at o f.ns false number_is g.0);
          full = long ∙ f.full;
          table = rw number_is at (g.1 refl);
        }

    pub stopped : (after : List Bool) → Noted (length seen) lo o seen after true → x.0 ≡ stop_at (again s.front.now lo (Some (lo + w))) s.front.now s.at s.to
    stopped after h = ap (stop_of s.to) (walk_hit _ s t u f.ns f.walk x turned (by_number s.front.now lo (Some (lo + w)) t.at o f.ns true number_is ((rw f.full at h) f.ns f.table).0))

  pub through : (t : Entries) (seen : List Bool) → Sofar w s lo t seen → t.to ≤ t.at → s.to ≡ stop_at (again s.front.now lo (Some (lo + w))) s.front.now s.at s.to
  through t seen f le = ap (stop_of s.to) (walk_end _ s t f.ns f.walk le)
