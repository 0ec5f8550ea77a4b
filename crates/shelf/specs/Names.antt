-- Names of fonts: 1 to 63 bytes; the first font that bears a name.
use Rattle.std.specs.Prelude.{◌≡◌, ℕ, ◌<◌, Bool, cond, ◌&&◌, List, [], length, Some, None, Option, ◌≢◌, nat_lt, slice_index_or}
use Rattle.std.specs.Str.{bytes_eq}
use Rattle.numbers.specs.Match.{first_match}

abbrev pub good_name : List ℕ → Bool
good_name n = nat_lt 0 (length n) && nat_lt (length n) 64

abbrev pub GoodName : List ℕ → Type 0
GoodName n = (0 < length n) × (length n < 64)

-- the first font that bears the name
unfoldable pub found_in : List (List ℕ) → List ℕ → Option ℕ
found_in names name = first_match (λ n. bytes_eq n name) names

-- no name twice
abbrev pub Distinct : List (List ℕ) → Type 0
Distinct ns = (i j : ℕ) → i < length ns → j < length ns → slice_index_or ns i [] ≡ slice_index_or ns j [] → i ≡ j

-- the same, as an invariant has it: of two places the later one bears another name
abbrev pub Apart : List (List ℕ) → Type 0
Apart ns = (i j : ℕ) → (i < j) × (j < length ns) → slice_index_or ns i [] ≢ slice_index_or ns j []

-- a name that can be kept
abbrev pub kept : List ℕ → Option (List ℕ)
kept n = cond (good_name n) (Some n) None
