-- What a call answers: a number, what is returned beside it, and what of the call was refused.
use Rattle.std.specs.Prelude.{ℕ}
use Rattle.std.specs.Option.{unwrap_or}
use Rattle.shelf.specs.Refusals.{returned}
use Rattle.fulatzebi.specs.declared.records.Answer.{Answer}
use Rattle.fulatzebi.specs.declared.stops.Why.{Why}
use Rattle.fulatzebi.specs.declared.stops.Why.TheVariants.{Refused, NoMemory, BadRecord}
use Rattle.fulatzebi.specs.declared.stops.Step.{Step}
use Rattle.fulatzebi.specs.declared.stops.Step.TheVariants.{Call, Font, Document, Page, Closing}
use Rattle.fulatzebi.specs.declared.stops.Stop.{Stop}

-- the refusal's number; 100 is want of memory, 101 a record that names what is not there
abbrev pub why_number : Why → ℕ
why_number (Refused e) = (returned e).number
why_number NoMemory = 100
why_number BadRecord = 101

abbrev pub refusal_value : Why → ℕ
refusal_value (Refused e) = unwrap_or (returned e).value 0
refusal_value NoMemory = 0
refusal_value BadRecord = 0

abbrev pub refusal_links : Why → ℕ
refusal_links (Refused e) = unwrap_or (returned e).links 0
refusal_links NoMemory = 0
refusal_links BadRecord = 0

abbrev pub step_number : Step → ℕ
step_number Call = 0
step_number (Font rank index) = 1
step_number Document = 2
step_number (Page index) = 3
step_number Closing = 4

abbrev pub step_rank : Step → ℕ
step_rank Call = 0
step_rank (Font rank index) = rank
step_rank Document = 0
step_rank (Page index) = 0
step_rank Closing = 0

abbrev pub step_index : Step → ℕ
step_index Call = 0
step_index (Font rank index) = index
step_index Document = 0
step_index (Page index) = index
step_index Closing = 0

-- want of memory
abbrev pub no_memory : Stop
no_memory = record { step = Call; why = NoMemory }

-- accepted, with the marks made and the length of the file
abbrev pub accepted : ℕ → ℕ → Answer
accepted marks length = record { number = 0; step = 0; rank = 0; index = 0; value = 0; links = 0; marks = marks; length = length }

-- refused, with the marks made before
abbrev pub refused : Stop → ℕ → Answer
refused s marks = record { number = why_number s.why; step = step_number s.step; rank = step_rank s.step; index = step_index s.step; value = refusal_value s.why; links = refusal_links s.why; marks = marks; length = 0 }
