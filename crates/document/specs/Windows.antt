-- How the check of the postamble finds a font number used again: windows of numbers, with a table for each.
use Rattle.std.specs.Prelude.{◌≡◌, ℕ, ◌+◌, ◌-◌, ◌<◌, ◌≤◌, Bool, true, false, cond, not, ◌&&◌, ◌||◌, List, [], Some, None, Option, ◌==◌, nat_le, nat_lt, slice_index, slice_index_or}
use Rattle.document.specs.Fonts.{defined_at, entry_at, member, noted_by, first_of, fair}

-- a number is below a limit; None is no limit
abbrev pub below : Option ℕ → ℕ → Bool
below None n = true
below (Some hi) n = nat_lt n hi

-- a number, if it is from lo on
abbrev pub from_on : ℕ → Option ℕ → Option ℕ
from_on lo None = None
from_on lo (Some n) = cond (nat_le lo n) (Some n) None

-- a number from lo on, below hi, is defined
abbrev pub within_by : ℕ → Option ℕ → Option ℕ → Bool
within_by lo hi None = false
within_by lo hi (Some n) = nat_le lo n && below hi n

unfoldable pub within : List ℕ → ℕ → Option ℕ → ℕ → List ℕ → Bool
within bs lo hi at ns = within_by lo hi (entry_at bs at).number

-- the same, and it is used again
abbrev pub again_by : ℕ → Option ℕ → Option ℕ → List ℕ → Bool
again_by lo hi None ns = false
again_by lo hi (Some n) ns = nat_le lo n && (below hi n && member n ns)

unfoldable pub again : List ℕ → ℕ → Option ℕ → ℕ → List ℕ → Bool
again bs lo hi at ns = again_by lo hi (entry_at bs at).number ns

-- neither a 138 nor a fair definition
abbrev pub unfair : List ℕ → ℕ → Bool
unfair bs at = cond (slice_index bs at == 138) false (not (fair (defined_at bs at)))

-- a number below hi is used again
abbrev pub used_below : Option ℕ → Option ℕ → List ℕ → Bool
used_below hi None ns = false
used_below hi (Some n) ns = below hi n && member n ns

-- unfair, or a number below hi is used again
unfoldable pub wrong : List ℕ → Option ℕ → ℕ → List ℕ → Bool
wrong bs hi at ns = cond (slice_index bs at == 138) false (not (fair (defined_at bs at)) || used_below hi (entry_at bs at).number ns)

-- where a walk stops: at the first command at which p holds, or at its end
abbrev pub stop_of : ℕ → Option ℕ → ℕ
stop_of to None = to
stop_of to (Some s) = s

abbrev pub stop_at : (ℕ → List ℕ → Bool) → List ℕ → ℕ → ℕ → ℕ
stop_at p bs from to = stop_of to (first_of p bs from (to - from) 0 [])

-- the table says which of the w numbers from lo on are among ns
abbrev pub Tells : ℕ → ℕ → List Bool → List ℕ → Type 0
Tells w lo seen ns = (n : ℕ) → lo ≤ n → n < lo + w → slice_index_or seen (n - lo) false ≡ member n ns

-- a command is noted in the table, and r says whether its number was there
abbrev pub Noted : ℕ → ℕ → Option ℕ → List Bool → List Bool → Bool → Type 0
Noted w lo o seen after r =
    (ns : List ℕ) → Tells w lo seen ns → (r ≡ again_by lo (Some (lo + w)) o ns) × (r ≡ false → Tells w lo after (noted_by o ns))
