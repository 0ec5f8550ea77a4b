-- What a VF file tells: its local fonts in the order of their definitions, and a packet or none for each of 256 codes.
use Rattle.std.specs.Prelude.{ℕ, List, [], ◌∷◌, ◌++◌, take, replicate, Some, None, Option, nat_eq, slice_set}
use Rattle.std.specs.List.{slice_get}
use Rattle.numbers.specs.Match.{first_match}
use Rattle.vf.specs.declared.entries.Local.{Local}
use Rattle.vf.specs.declared.entries.Packet.{Packet}
use Rattle.vf.specs.declared.packets.Coded.{Coded}
use Rattle.vf.specs.declared.tables.Vf.{Vf}

pub record VfFont : Type 0 where
  pub locals : List Local
  pub packets : List (Option Packet)

abbrev pub font_of : Vf → VfFont
font_of f = record { locals = take f.count f.locals; packets = f.packets }

-- before any entry
abbrev pub no_font : VfFont
no_font = record { locals = []; packets = replicate 256 None }

abbrev pub entry_at : List Local → Option ℕ → Option Local
entry_at ls None = None
entry_at ls (Some k) = slice_get ls k

-- the local font of a number
abbrev pub local_by : VfFont → ℕ → Option Local
local_by f number = entry_at f.locals (first_match (λ l. nat_eq l.number number) f.locals)

abbrev pub with_local : VfFont → Local → VfFont
with_local f l = record { locals = f.locals ++ (l ∷ []); packets = f.packets }

abbrev pub with_packet : VfFont → Coded → VfFont
with_packet f k = record { locals = f.locals; packets = slice_set f.packets k.code (Some k.packet) }
