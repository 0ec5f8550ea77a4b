-- How many fonts the postamble of a document defines.
use Rattle.std.specs.Prelude.{ℕ, zero, suc, ◌+◌, ◌-◌, List, length, take, None, Some, Option, Ok, Err, Result}
use Rattle.shelf.specs.declared.refusals.Refusal.{Refusal}
use Rattle.commands.specs.Definitions.{Defined}
use Rattle.document.specs.declared.documents.Document.{Document}
use Rattle.document.specs.Fonts.{defined_at, entry_at}
use Rattle.document.specs.Legal.{legal}

abbrev pub one_if : Option Defined → ℕ
one_if None = 0
one_if (Some d) = 1

-- the definitions among the commands from a place on: `left` bytes, of which the first `skip` belong to the last command
unfoldable pub defined_from : List ℕ → ℕ → ℕ → ℕ → ℕ
defined_from bs at zero skip = 0
defined_from bs at (suc left) (suc skip) = defined_from bs (suc at) left skip
defined_from bs at (suc left) zero = one_if (defined_at bs at) + defined_from bs (suc at) left ((entry_at bs at).span - 1)

-- behind the postamble's numbers
abbrev pub defined_in : List ℕ → ℕ → ℕ
defined_in front from = defined_from front from (length front - from) 0

abbrev pub fonts_by : List ℕ → Result Document Refusal → ℕ
fonts_by bs (Ok d) = defined_in (take d.end bs) (d.post + 29)
fonts_by bs (Err e) = 0

-- none where the document is refused
abbrev pub fonts_of : List ℕ → ℕ
fonts_of bs = fonts_by bs (legal bs)
