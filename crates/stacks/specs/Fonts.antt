-- The fonts of a command line by their numbers on its shelf.
use Rattle.std.specs.Prelude.{ℕ, ◌-◌, cond, nat_lt, List, [], ◌∷◌, length, Option, None, Vec}
use Rattle.std.specs.List.{slice_get}
use Rattle.std.specs.declared.alloc.Global.{Global}
use Rattle.terminal.specs.declared.options.Options.{Options}
use Rattle.terminal.specs.declared.values.Font.{Font}

-- font n of lists that stand one behind the other
unfoldable pub font_in : List (Vec Font Global) → ℕ → Option Font
font_in [] n = None
font_in (fonts ∷ more) n = cond (nat_lt n (length fonts.items)) (slice_get fonts.items n) (font_in more (n - length fonts.items))

-- the faces first, then the ranks, the lowest first
abbrev pub font_of : Options → ℕ → Option Font
font_of o n = cond (nat_lt n (length o.fonts.items)) (slice_get o.fonts.items n) (font_in o.ranks.items (n - length o.fonts.items))
