-- The commands of the postamble: 138s and font definitions. The bytes given here end where the 249 stands.
use Rattle.std.specs.Prelude.{ℕ, zero, suc, ◌+◌, ◌-◌, Bool, false, cond, not, ◌&&◌, ◌||◌, List, [], ◌∷◌, length, take, Some, None, Option, ◌==◌, slice_index}
use Rattle.numbers.specs.Lengths.{good_size}
use Rattle.shelf.specs.Names.{good_name}
use Rattle.commands.specs.Definitions.{Defined, definition_at}
use Rattle.document.specs.declared.documents.Document.{Document}

-- in how many bytes the font number stands, by the first byte: 243 to 246 are definitions
abbrev pub wide : List ℕ → ℕ → ℕ
wide bs at = slice_index bs at - 242

-- the definition at a place; none where none begins there, or where it does not end before the bytes do
unfoldable pub defined_at : List ℕ → ℕ → Option Defined
defined_at bs at = definition_at bs at (wide bs at)

-- a command: the font number that it defines, if it is a definition, and how many bytes it has
pub record Entry : Type 0 where
  pub number : Option ℕ
  pub span : ℕ

abbrev pub number_by : Option Defined → Option ℕ
number_by (Some d) = Some d.number
number_by None = None

abbrev pub span_by : ℕ → Option Defined → ℕ
span_by w (Some d) = w + 15 + length d.name
span_by w None = 1

abbrev pub entry_of : ℕ → Option Defined → Entry
entry_of w o = record { number = number_by o; span = span_by w o }

unfoldable pub entry_at : List ℕ → ℕ → Entry
entry_at bs at = entry_of (wide bs at) (defined_at bs at)

abbrev pub member : ℕ → List ℕ → Bool
member n [] = false
member n (m ∷ ms) = n == m || member n ms

-- a command's own number is among these
abbrev pub used : Option ℕ → List ℕ → Bool
used None ns = false
used (Some n) ns = member n ns

-- the font numbers so far, with a command's own
abbrev pub noted_by : Option ℕ → List ℕ → List ℕ
noted_by None ns = ns
noted_by (Some n) ns = n ∷ ns

abbrev pub noted : List ℕ → ℕ → List ℕ → List ℕ
noted bs at ns = noted_by (entry_at bs at).number ns

-- the place of the first command at which p holds with the font numbers before it;
-- `left` bytes from a place on, of which the first `skip` belong to the last command
unfoldable pub first_of : (ℕ → List ℕ → Bool) → List ℕ → ℕ → ℕ → ℕ → List ℕ → Option ℕ
first_of p bs at zero skip ns = None
first_of p bs at (suc left) (suc skip) ns = first_of p bs (suc at) left skip ns
first_of p bs at (suc left) zero ns = cond (p at ns) (Some at) (first_of p bs (suc at) left ((entry_at bs at).span - 1) (noted bs at ns))

-- size and design size are sizes, the name is one
abbrev pub fair : Option Defined → Bool
fair (Some d) = good_size d.size && (good_size d.design && good_name d.name)
fair None = false

-- neither a 138 nor a fair definition of a font number not defined before
unfoldable pub unlawful : List ℕ → ℕ → List ℕ → Bool
unlawful bs at ns = cond (slice_index bs at == 138) false (not (fair (defined_at bs at)) || used (entry_at bs at).number ns)

-- the place of the first command from a place on that is unlawful
unfoldable pub first_unlawful : List ℕ → ℕ → Option ℕ
first_unlawful bs from = first_of (unlawful bs) bs from (length bs - from) 0 []

-- a command's number is n
abbrev pub has_number : ℕ → Option ℕ → Bool
has_number n None = false
has_number n (Some k) = k == n

-- font n is defined at a place
abbrev pub defines : List ℕ → ℕ → ℕ → Bool
defines bs n at = has_number n (entry_at bs at).number

abbrev pub defined_in : List ℕ → Option ℕ → Option Defined
defined_in bs (Some at) = defined_at bs at
defined_in bs None = None

-- the first definition of font n among the commands from a place on
unfoldable pub font_from : List ℕ → ℕ → ℕ → Option Defined
font_from bs from n = defined_in bs (first_of (λ at ns. defines bs n at) bs from (length bs - from) 0 [])

-- the definition of font n in a document
abbrev pub font_by : List ℕ → Document → ℕ → Option Defined
font_by bs d n = font_from (take d.end bs) (d.post + 29) n
