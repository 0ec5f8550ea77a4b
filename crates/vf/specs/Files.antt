-- A VF file, read front to back: preamble, definitions, packets, and one or more bytes 248.
use Rattle.std.specs.Prelude.{ℕ, zero, suc, ◌+◌, ◌-◌, ◌^◌, Bool, cond, ◌&&◌, List, length, Some, None, Ok, Err, Option, Result, ◌==◌, nat_le, nat_lt, slice_index, slice_index_or}
use Rattle.commands.specs.Definitions.{Defined, definition_at}
use Rattle.shelf.specs.Names.{found_in}
use Rattle.shelf.specs.declared.refusals.Refusal.{Refusal}
use Rattle.shelf.specs.declared.refusals.Refusal.TheVariants.{BrokenVf, NotBelow}
use Rattle.vf.specs.declared.entries.Local.{Local}
use Rattle.vf.specs.declared.entries.Packet.{Packet}
use Rattle.vf.specs.declared.packets.Coded.{Coded}
use Rattle.vf.specs.declared.reading.Phase.{Phase}
use Rattle.vf.specs.declared.reading.Phase.TheVariants.{Definitions, Packets, Ending}
use Rattle.vf.specs.declared.reading.Reader.{Reader}
use Rattle.vf.specs.declared.tables.Vf.{Vf}
use Rattle.vf.specs.Fonts.{VfFont, font_of, no_font, local_by, with_local, with_packet}
use Rattle.vf.specs.Packets.{packet_at}

-- as far as the file has been read
pub record Reading : Type 0 where
  pub phase : Phase
  pub font : VfFont

abbrev pub reading_of : Reader → Reading
reading_of r = record { phase = r.phase; font = font_of r.vf }

abbrev pub fresh : Reading
fresh = record { phase = Definitions; font = no_font }

-- what has been read after an item, and the place after it or the refusal
abbrev pub Step : Type 0
Step = Reading × Result ℕ Refusal

abbrev broken : ℕ → Reading → Step
broken at t = (t, Err (BrokenVf at))

-- a fix_word above 0, by its four bytes: the first of them is 0
abbrev pub positive : ℕ → Bool
positive n = nat_lt 0 n && nat_lt n (2 ^ 24)

-- a definition whose number has w bytes: a font of its name is below, no other has its number, its size is positive
abbrev placed : ℕ → ℕ → Reading → Defined → Option ℕ → Step
placed at w t d None = (t, Err (NotBelow at))
placed at w t d (Some f) = (record { phase = t.phase; font = with_local t.font (record { number = d.number; font = f; size = d.size }) }, Ok (at + w + 15 + length d.name))

abbrev numbered : List (List ℕ) → ℕ → ℕ → Reading → Defined → Option Local → Step
numbered names at w t d (Some l) = broken at t
numbered names at w t d None = placed at w t d (found_in names d.name)

abbrev sized : List (List ℕ) → ℕ → ℕ → Reading → Option Defined → Step
sized names at w t None = broken at t
sized names at w t (Some d) = cond (positive d.size) (numbered names at w t d (local_by t.font d.number)) (broken at t)

-- at most 16 definitions
abbrev pub defined : List (List ℕ) → List ℕ → ℕ → ℕ → Reading → Step
defined names s at w t = cond (nat_le 16 (length t.font.locals)) (broken at t) (sized names at w t (definition_at s at w))

-- a packet whose code may have one already
abbrev entered : ℕ → Reading → Coded → Option Packet → Step
entered at t k (Some p) = broken at t
entered at t k None = (record { phase = Packets; font = with_packet t.font k }, Ok (k.packet.start + k.packet.length))

abbrev coded : ℕ → Reading → Option Coded → Step
coded at t None = broken at t
coded at t (Some k) = entered at t k (slice_index_or t.font.packets k.code None)

abbrev pub packed : List ℕ → ℕ → Reading → Step
packed s at t = coded at t (packet_at s at)

-- definitions only before the first packet, packets only before the first 248
abbrev in_definitions : Phase → Step → Step → Step
in_definitions Definitions here other = here
in_definitions Packets here other = other
in_definitions Ending here other = other

abbrev before_ending : Phase → Step → Step → Step
before_ending Definitions here other = here
before_ending Packets here other = here
before_ending Ending here other = other

-- the item at a place
abbrev pub item : List (List ℕ) → List ℕ → ℕ → Reading → Step
item names s at t =
    cond (nat_lt (slice_index s at) 243) (before_ending t.phase (packed s at t) (broken at t))
    (cond (nat_lt (slice_index s at) 247) (in_definitions t.phase (defined names s at (slice_index s at - 242) t) (broken at t))
    (cond (slice_index s at == 248) (record { phase = Ending; font = t.font }, Ok (at + 1))
    (broken at t)))

-- the file ends at a place
abbrev pub ended : ℕ → Reading → Phase → Result VfFont Refusal
ended at t Definitions = Err (BrokenVf at)
ended at t Packets = Err (BrokenVf at)
ended at t Ending = Ok t.font

-- on from an item with so many bytes to skip, or its refusal
abbrev pub onward : ℕ → Step → (ℕ → Reading → Result VfFont Refusal) → Result VfFont Refusal
onward at (t, Err e) on = Err e
onward at (t, Ok next) on = on (next - suc at) t

-- item by item: `left` bytes are to come from the place on, of which `skip` belong to the last item
unfoldable pub walk : List (List ℕ) → List ℕ → (skip at left : ℕ) → Reading → Result VfFont Refusal
walk names s skip at zero t = ended at t t.phase
walk names s (suc k) at (suc n) t = walk names s k (suc at) n t
walk names s zero at (suc n) t = onward at (item names s at t) (λ k u. walk names s k (suc at) n u)

-- the place after 247 202, a length byte, a comment as long, check sum and design size
abbrev pub opened : List ℕ → Option ℕ
opened s =
    cond (nat_le 3 (length s) && slice_index s 0 == 247 && slice_index s 1 == 202)
    (cond (nat_le (slice_index s 2 + 11) (length s)) (Some (slice_index s 2 + 11)) None)
    None

abbrev pub from : List (List ℕ) → List ℕ → Option ℕ → Result VfFont Refusal
from names s None = Err (BrokenVf 0)
from names s (Some start) = walk names s 0 start (length s - start) fresh

-- the file over fonts with these names: what it tells, or its first refusal
unfoldable pub vf_of : List (List ℕ) → List ℕ → Result VfFont Refusal
vf_of names s = from names s (opened s)

-- what is read, as code holds it
abbrev pub walked : Reading → Result (Unit {0}) Refusal → Result VfFont Refusal
walked t (Ok u) = Ok t.font
walked t (Err e) = Err e

abbrev pub vf_in : Result Vf Refusal → Result VfFont Refusal
vf_in (Ok f) = Ok (font_of f)
vf_in (Err e) = Err e
