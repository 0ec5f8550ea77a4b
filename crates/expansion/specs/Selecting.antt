-- What a packet of a VF font at a size selects, and how it reads lengths.
use Rattle.std.specs.Prelude.{ℕ, cond, ℤ, pos, negsuc, Some, None, Ok, Err, Option, Result}
use Rattle.std.specs.List.{slice_get}
use Rattle.numbers.specs.Bytes.{complement_at}
use Rattle.numbers.specs.FixWords.{scaled}
use Rattle.numbers.specs.Lengths.{good_size}
use Rattle.shelf.specs.declared.refusals.Cause.{Cause}
use Rattle.shelf.specs.declared.refusals.Cause.TheVariants.{NoFont, BadSize}
use Rattle.machine.specs.declared.registers.Chosen.{Chosen}
use Rattle.vf.specs.declared.entries.Local.{Local}
use Rattle.vf.specs.Fonts.{VfFont, local_by}

-- the fix_word whose four bytes these are, scaled
abbrev pub scaled_word : ℕ → Option ℕ → Option ℤ
scaled_word size (Some n) = scaled size n
scaled_word size None = None

-- each length parameter and rule's side is a fix_word, scaled by the VF font's size
abbrev pub measure_at : ℕ → ℤ → Option ℤ
measure_at size b = scaled_word size (complement_at 4 b)

-- a font at a size that is one
abbrev pub sized_at : ℕ → Option ℤ → Result Chosen Cause
sized_at font (Some (pos n)) = cond (good_size n) (Ok (record { font = font; size = n })) (Err BadSize)
sized_at font (Some (negsuc n)) = Err BadSize
sized_at font None = Err BadSize

-- a local font, its own size scaled by the VF font's
abbrev pub chosen_at : ℕ → Local → Result Chosen Cause
chosen_at size l = sized_at l.font (scaled size l.size)

abbrev pub selected_by : ℕ → Option Local → Result Chosen Cause
selected_by size (Some l) = chosen_at size l
selected_by size None = Err NoFont

-- the local font of a number
abbrev pub selects : VfFont → ℕ → ℕ → Result Chosen Cause
selects f size n = selected_by size (local_by f n)

abbrev some : Result Chosen Cause → Result (Option Chosen) Cause
some (Ok c) = Ok (Some c)
some (Err k) = Err k

abbrev pub first_by : ℕ → Option Local → Result (Option Chosen) Cause
first_by size (Some l) = some (chosen_at size l)
first_by size None = Ok None

-- a packet starts with the first local font, if there is one
abbrev pub first_font : VfFont → ℕ → Result (Option Chosen) Cause
first_font f size = first_by size (slice_get f.locals 0)
