-- What an output in memory holds.
use Rattle.std.specs.Prelude.{◌≡◌, ℕ, List, ◌++◌, Option, None, Some, Ok, Err, Result}
use Rattle.terminal.specs.declared.output.Output.{Output}
use Rattle.terminal.specs.declared.output.Target.{Target}
use Rattle.terminal.specs.declared.output.Target.TheVariants.{Screen, Memory}

abbrev pub held_at : Target → Option (List ℕ)
held_at (Screen to) = None
held_at (Memory bytes) = Some bytes.items

abbrev pub held_by : {E : Type 0} → Result Target E → Option (List ℕ)
held_by (Ok to) = held_at to
held_by (Err error) = None

-- the bytes so far; none where they are printed, or where one failed
abbrev pub held : Output → Option (List ℕ)
held output = held_by output.to

-- what is held grows by the bytes, if all is held still
abbrev pub Grows : Option (List ℕ) → Option (List ℕ) → List ℕ → Type 0
Grows (Some before) (Some after) bytes = after ≡ before ++ bytes
Grows (Some before) None bytes = Unit {0}
Grows None (Some after) bytes = ⊥
Grows None None bytes = Unit {0}

abbrev pub Adds : Output → Output → List ℕ → Type 0
Adds old new bytes = Grows (held old) (held new) bytes
