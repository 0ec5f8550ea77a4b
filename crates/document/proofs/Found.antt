-- The first definition of a font number. Assumes nothing.
use Rattle.std.proofs.Common.{◌≡◌, ℕ, ◌<◌, ◌≤◌, min, Bool, true, false, ◌⊎◌, List, [], length, take, Some, None, Option, sym, ◌∙◌, inl, inr, ap, arith}
use Rattle.std.proofs.lemmas.List.{length-take}
use Rattle.std.proofs.lemmas.Bool.{cases_lt}
use Rattle.std.specs.Option.{option_map}
use Rattle.commands.specs.declared.parts.Definition.{Definition}
use Rattle.commands.specs.Shapes.{defines as defined_by}
use Rattle.document.specs.declared.entries.Entries.{Entries}
use Rattle.document.specs.Entries.{Turns}
use Rattle.document.specs.Fonts.{number_by, noted, has_number, defines, defined_in, font_from}
use Rattle.document.proofs.Walks.{Walked, miss, walk_on, walk_hit, walk_end, turn-number, turn-defined}

-- from beyond the end on there is no command
none-past : (bs : List ℕ) (n from : ℕ) → length bs ≤ from → None ≡ font_from bs from n
unfolding font_from
none-past bs n from h = ap (defined_in bs) (miss (λ k ms. defines bs n k) bs (length bs) from [] h)

at_most : (bs : List ℕ) (n from top : ℕ) → (from < top) ⊎ (top ≤ from) → length bs ≤ top → font_from bs (min from top) n ≡ font_from bs from n
at_most bs n from top (inl lt) h = let e : min from top ≡ from = omega arith in rw e
at_most bs n from top (inr le) h = sym (none-past bs n (min from top) (omega arith)) ∙ none-past bs n from (omega arith)

pub font-most : (bytes : List ℕ) (end n from top : ℕ) → length bytes ≤ top → font_from (take end bytes) (min from top) n ≡ font_from (take end bytes) from n
font-most bytes end n from top h = at_most (take end bytes) n from top (cases_lt from top) (omega (arith, length-take end bytes))

-- the search for a font
module _ (s t u : Entries) (n : ℕ) (w : Walked (λ k ms. defines s.front.now n k) s t) (x : ℕ × Option Definition) (turned : Turns t x u) where
  has : (b : Bool) → b ≡ has_number n (number_by (option_map defined_by x.1)) → b ≡ defines s.front.now n t.at
  has b h = h ∙ ap (has_number n) (turn-number s t u x turned w.1.front)

  pub found : s.to ≡ length s.front.now → true ≡ has_number n (number_by (option_map defined_by x.1)) → option_map defined_by x.1 ≡ font_from s.front.now s.at n
  unfolding font_from
  found e h = rw (← e) (turn-defined s t u x turned w.1.front ∙ ap (defined_in s.front.now) (ap Some (sym turned.place) ∙ walk_hit _ s t u w.0 w.1 x turned (has true h)))

  pub sought_on : false ≡ has_number n (number_by (option_map defined_by x.1)) → Walked (λ k ms. defines s.front.now n k) s u
  sought_on h = (noted s.front.now t.at w.0, walk_on _ s t u w.0 w.1 x turned (has false h))

pub not_found : (s t : Entries) (n : ℕ) → Walked (λ k ms. defines s.front.now n k) s t → s.to ≡ length s.front.now → t.to ≤ t.at → None ≡ font_from s.front.now s.at n
unfolding font_from
not_found s t n w e le = rw (← e) (ap (defined_in s.front.now) (walk_end _ s t w.0 w.1 le))
