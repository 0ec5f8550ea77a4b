-- A table of the places of the postamble's definitions, in which a font is found by its number.
use Rattle.std.specs.Prelude.{ℕ, ◌+◌, ◌*◌, cond, List, [], ◌∷◌, Some, None, Option}
use Rattle.document.specs.Fonts.{entry_at, defines}

-- above all numbers where there is no definition
abbrev pub number_or : Option ℕ → ℕ
number_or None = 4294967296
number_or (Some n) = n

-- the number of the definition at a place
unfoldable pub number_at : List ℕ → ℕ → ℕ
number_at bs at = number_or (entry_at bs at).number

-- in this order a lower number comes first, and of equal numbers the one that stands first
abbrev pub key_at : List ℕ → ℕ → ℕ
key_at bs at = number_at bs at * 2147483648 + at

-- the first of these places at which font n is defined
unfoldable pub first_among : List ℕ → ℕ → List ℕ → Option ℕ
first_among bs n [] = None
first_among bs n (p ∷ ps) = cond (defines bs n p) (Some p) (first_among bs n ps)
