-- The machine's state and answers as the definitions have them.
use Rattle.std.specs.Prelude.{ℕ, Bool, true, false, List, [], ◌∷◌, ℤ, Some, None, Option, Ok, Err, Result}
use Rattle.shelf.specs.declared.marks.Mark.{Mark}
use Rattle.shelf.specs.declared.refusals.Cause.{Cause}
use Rattle.shelf.specs.declared.refusals.Refusal.{Refusal}
use Rattle.shelf.specs.Outcomes.{Outcome, Ending, well, fault, ends, faulty}
use Rattle.machine.specs.declared.registers.Drawn.{Drawn}
use Rattle.machine.specs.declared.registers.Turn.{Turn}
use Rattle.machine.specs.declared.state.Machine.{Machine}
use Rattle.machine.specs.Frames.{frames_of}
use Rattle.machine.specs.Steps.{State, Next, go, done}

abbrev pub view_of : Machine → State
view_of m = record { at = m.at; font = m.font; frames = frames_of m.frames }

-- how something ends that makes no mark
abbrev pub ending_of : {W : Type 0} → Result W Cause → Ending W
ending_of (Ok w) = well w
ending_of (Err k) = fault k []

-- a step's answer with the state that it leaves: it goes on, or the page is done
abbrev pub next : Bool → State → Next
next true st = go st
next false st = done

abbrev pub ends_in : Result Bool Cause → State → Ending Next
ends_in (Ok on) st = well (next on st)
ends_in (Err k) st = fault k []

abbrev pub stepped : Result (ℕ × Bool) Refusal → State → Result (ℕ × Next) Refusal
stepped (Ok (n, on)) st = Ok (n, next on st)
stepped (Err e) st = Err e

-- what a rule comes to, as code has it
abbrev pub marks_in : Option Mark → List Mark
marks_in (Some m) = m ∷ []
marks_in None = []

abbrev pub rule_outcome : Result Drawn Cause → Outcome ℤ
rule_outcome (Ok d) = ends (marks_in d.mark) (well d.width)
rule_outcome (Err k) = faulty k

abbrev pub turned_by : Result Turn Refusal → State → Result (ℕ × (ℕ × Next)) Refusal
turned_by (Ok t) st = Ok (t.marks, (t.length, next t.on st))
turned_by (Err e) st = Err e

abbrev pub counted : Result ℕ Refusal → Result (ℕ × Unit {0}) Refusal
counted (Ok n) = Ok (n, tt)
counted (Err e) = Err e
