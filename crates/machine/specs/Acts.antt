-- What differs between a page and a packet, and with the shelf below all that a run stands on.
use Rattle.std.specs.Prelude.{ℕ, Bool, List, ℤ, Option, Result}
use Rattle.shelf.specs.declared.marks.Link.{Link}
use Rattle.shelf.specs.declared.refusals.Cause.{Cause}
use Rattle.shelf.specs.Meaning.{Meaning}
use Rattle.machine.specs.declared.registers.Chosen.{Chosen}
use Rattle.machine.specs.Steps.{World}

pub record Acts : Type 0 where
  -- a length parameter or a rule's side as a length; none where it is no fix_word
  pub measure : ℤ → Option ℤ
  -- what a font number selects on a shelf that has these names
  pub choose : List (List ℕ) → ℕ → Result Chosen Cause
  -- a page has eop and definitions, and ends by eop; a packet ends with its bytes
  pub page : Bool
  -- the link of this page or packet at a place
  pub link_at : ℕ → Link

-- over a shelf
abbrev pub world : Meaning → Acts → World
world m a = record { below = m; measure = a.measure; choose = a.choose m.names; page = a.page; link_at = a.link_at }
