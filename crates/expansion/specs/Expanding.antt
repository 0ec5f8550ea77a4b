-- A character of a virtual font: its packet, run over the shelf below, and the packet's own width.
use Rattle.std.specs.Prelude.{ℕ, ◌+◌, false, List, [], take, ℤ, pos, Some, None, Option, slice_index_or}
use Rattle.numbers.specs.FixWords.{scaled}
use Rattle.shelf.specs.declared.asked.Asked.{Asked}
use Rattle.shelf.specs.declared.marks.Link.{Link}
use Rattle.shelf.specs.declared.refusals.Cause.TheVariants.{NoCode, BadSize}
use Rattle.shelf.specs.Meaning.{Meaning}
use Rattle.shelf.specs.Outcomes.{Outcome, well, ends, faulty, bind, link}
use Rattle.machine.specs.declared.registers.Chosen.{Chosen}
use Rattle.machine.specs.Acts.{Acts, world}
use Rattle.machine.specs.Runs.{run_from}
use Rattle.machine.specs.Steps.{World, State}
use Rattle.machine.specs.Views.{ending_of}
use Rattle.vf.specs.declared.entries.Packet.{Packet}
use Rattle.vf.specs.Fonts.{VfFont}
use Rattle.expansion.specs.Selecting.{measure_at, selects, first_font}

abbrev pub link_of : Asked → ℕ → Link
link_of c at = record { font = c.font; code = c.code; place = at }

-- what its packet runs over
abbrev pub packet_acts : VfFont → Asked → Acts
packet_acts f c = record { measure = measure_at c.size; choose = λ names. selects f c.size; page = false; link_at = link_of c }

abbrev pub packet_world : Meaning → VfFont → Asked → World
packet_world m f c = world m (packet_acts f c)

-- w, x, y and z start at 0
abbrev pub start_at : Asked → Option Chosen → State
start_at c font = record { at = record { h = c.h; v = c.v; w = pos 0; x = pos 0; y = pos 0; z = pos 0 }; font = font; frames = [] }

-- a packet of a file, from its first local font to its end
abbrev pub packet_run : Meaning → VfFont → List ℕ → Asked → Packet → Outcome (Unit {0})
packet_run m f file c p =
    bind (link (link_of c p.start) (ends [] (ending_of (first_font f c.size))))
    (λ font. run_from (packet_world m f c) (take (p.start + p.length) file) p.start (start_at c font))

abbrev pub wide_run : Meaning → VfFont → List ℕ → Asked → Packet → Option ℤ → Outcome ℤ
wide_run m f file c p (Some l) = bind (packet_run m f file c p) (λ u. ends [] (well l))
wide_run m f file c p None = faulty BadSize

abbrev pub expanded_by : Meaning → VfFont → List ℕ → Asked → Option Packet → Outcome ℤ
expanded_by m f file c (Some p) = wide_run m f file c p (scaled c.size p.width)
expanded_by m f file c None = faulty NoCode

-- the character's outcome: a code without a packet is none of the font's
unfoldable pub expanded : Meaning → VfFont → List ℕ → Asked → Outcome ℤ
expanded m f file c = expanded_by m f file c (slice_index_or f.packets c.code None)
