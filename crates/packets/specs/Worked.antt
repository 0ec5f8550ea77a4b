-- Short packets, with the marks, the width or the fault and its chain that each comes to.
use Rattle.std.specs.Prelude.{◌≡◌, ℕ, cond, List, [], ◌∷◌, length, replicate, ℤ, pos, Some, None, ◌==◌, slice_set}
use Rattle.shelf.specs.declared.asked.Asked.{Asked}
use Rattle.shelf.specs.declared.marks.Link.{Link}
use Rattle.shelf.specs.declared.marks.Mark.{Mark}
use Rattle.shelf.specs.declared.marks.Mark.TheVariants.{Glyph, Rule}
use Rattle.shelf.specs.declared.refusals.Cause.{Cause}
use Rattle.shelf.specs.declared.refusals.Cause.TheVariants.{NotAllowed, PastEnd, Frames, NoFont, NoCode, OutOfRange, BadSize}
use Rattle.shelf.specs.Meaning.{Meaning}
use Rattle.shelf.specs.Outcomes.{Outcome, well, fault, ends, faulty}
use Rattle.vf.specs.declared.entries.Local.{Local}
use Rattle.vf.specs.Fonts.{VfFont}
use Rattle.expansion.specs.Expanding.{expanded}

abbrev link_of : ℕ → ℕ → ℕ → Link
link_of font code place = record { font = font; code = code; place = place }

-- a shelf of one font: code 65 is one glyph of width 1,000, code 66 faults below, the others are none of its codes
abbrev below : Meaning
below =
    record {
      names = (98 ∷ []) ∷ [];
      faces = [];
      outcome = λ font size code h v. cond (code == 65) (ends (Glyph 0 size code h v ∷ []) (well (pos 1000))) (cond (code == 66) (ends [] (fault Frames (link_of 0 66 9 ∷ []))) (faulty NoCode));
    }

-- local font 7 has size 1, local font 9 has half of it
abbrev locals : List Local
locals = record { number = 7; font = 0; size = 1048576 } ∷ record { number = 9; font = 0; size = 524288 } ∷ []

-- a font with one packet, of code 1 and width 77
abbrev font_with : List Local → List ℕ → VfFont
font_with ls bytes = record { locals = ls; packets = slice_set (replicate 256 None) 1 (Some (record { start = 0; length = length bytes; width = 77 })) }

-- at this size a fix_word scales to the number of its last three bytes
abbrev asked : ℕ → ℤ → Asked
asked code h = record { font = 5; size = 1048576; code = code; h = h; v = pos 200 }

-- the packet of these bytes, from (100, 200)
abbrev packet : List ℕ → Outcome ℤ
packet bytes = expanded below (font_with locals bytes) bytes (asked 1 (pos 100))

abbrev glyph : ℕ → ℕ → Mark
glyph h v = Glyph 0 1048576 65 (pos h) (pos v)

abbrev makes : List Mark → Outcome ℤ
makes marks = ends marks (well (pos 77))

abbrev faults : List Mark → Cause → ℕ → Outcome ℤ
faults marks cause place = ends marks (fault cause (link_of 5 1 place ∷ []))

-- characters: the first local font is selected, set moves by the width below, and the width is the packet's
abbrev Characters : Type 0
Characters =
    (packet [] ≡ makes [])
    × (packet (65 ∷ []) ≡ makes (glyph 100 200 ∷ []))
    × (packet (65 ∷ 65 ∷ []) ≡ makes (glyph 100 200 ∷ glyph 1100 200 ∷ []))
    × (packet (133 ∷ 65 ∷ 65 ∷ []) ≡ makes (glyph 100 200 ∷ glyph 100 200 ∷ []))
    × (packet (128 ∷ 65 ∷ 65 ∷ []) ≡ makes (glyph 100 200 ∷ glyph 1100 200 ∷ []))
    × (packet (180 ∷ 65 ∷ []) ≡ makes (Glyph 0 524288 65 (pos 100) (pos 200) ∷ []))

-- moves: each by its own register, and w, x, y, z at 0 at first
abbrev Moves : Type 0
Moves =
    (packet (143 ∷ 7 ∷ 65 ∷ []) ≡ makes (glyph 107 200 ∷ []))
    × (packet (143 ∷ 255 ∷ 65 ∷ []) ≡ makes (glyph 99 200 ∷ []))
    × (packet (147 ∷ 152 ∷ 161 ∷ 166 ∷ 65 ∷ []) ≡ makes (glyph 100 200 ∷ []))
    × (packet (148 ∷ 10 ∷ 153 ∷ 3 ∷ 147 ∷ 65 ∷ []) ≡ makes (glyph 123 200 ∷ []))
    × (packet (148 ∷ 10 ∷ 153 ∷ 3 ∷ 152 ∷ 65 ∷ []) ≡ makes (glyph 116 200 ∷ []))
    × (packet (157 ∷ 5 ∷ 65 ∷ []) ≡ makes (glyph 100 205 ∷ []))
    × (packet (162 ∷ 10 ∷ 167 ∷ 3 ∷ 161 ∷ 65 ∷ []) ≡ makes (glyph 100 223 ∷ []))
    × (packet (162 ∷ 10 ∷ 167 ∷ 3 ∷ 166 ∷ 65 ∷ []) ≡ makes (glyph 100 216 ∷ []))

-- frames: pop takes all six registers back, and leaves the font
abbrev FramesCases : Type 0
FramesCases =
    (packet (141 ∷ 143 ∷ 50 ∷ 157 ∷ 5 ∷ 65 ∷ 142 ∷ 65 ∷ []) ≡ makes (glyph 150 205 ∷ glyph 100 200 ∷ []))
    × (packet (148 ∷ 10 ∷ 141 ∷ 148 ∷ 3 ∷ 142 ∷ 147 ∷ 65 ∷ []) ≡ makes (glyph 120 200 ∷ []))
    × (packet (141 ∷ 180 ∷ 142 ∷ 65 ∷ []) ≡ makes (Glyph 0 524288 65 (pos 100) (pos 200) ∷ []))
    × (packet (142 ∷ []) ≡ faults [] Frames 0)
    × (packet (141 ∷ []) ≡ faults [] Frames 1)

-- rules: set_rule moves by the width, put_rule does not, and a side of 0 or below makes no mark
abbrev Rules : Type 0
Rules =
    (packet (132 ∷ 0 ∷ 0 ∷ 0 ∷ 3 ∷ 0 ∷ 0 ∷ 0 ∷ 4 ∷ 65 ∷ []) ≡ makes (Rule 3 4 (pos 100) (pos 200) ∷ glyph 104 200 ∷ []))
    × (packet (137 ∷ 0 ∷ 0 ∷ 0 ∷ 3 ∷ 0 ∷ 0 ∷ 0 ∷ 4 ∷ 65 ∷ []) ≡ makes (Rule 3 4 (pos 100) (pos 200) ∷ glyph 100 200 ∷ []))
    × (packet (132 ∷ 0 ∷ 0 ∷ 0 ∷ 0 ∷ 0 ∷ 0 ∷ 0 ∷ 4 ∷ 65 ∷ []) ≡ makes (glyph 104 200 ∷ []))
    × (packet (132 ∷ 0 ∷ 0 ∷ 0 ∷ 3 ∷ 255 ∷ 255 ∷ 255 ∷ 252 ∷ 65 ∷ []) ≡ makes (glyph 96 200 ∷ []))

-- faults, each with the place of its command; a special is passed over
abbrev Faults : Type 0
Faults =
    (packet (65 ∷ 140 ∷ []) ≡ faults (glyph 100 200 ∷ []) NotAllowed 1)
    × (packet (138 ∷ 243 ∷ []) ≡ faults [] PastEnd 1)
    × (packet (171 ∷ []) ≡ faults [] NoFont 0)
    × (packet (65 ∷ 67 ∷ []) ≡ faults (glyph 100 200 ∷ []) NoCode 1)
    × (packet (129 ∷ 1 ∷ 0 ∷ []) ≡ faults [] NoCode 0)
    × (packet (146 ∷ 1 ∷ 0 ∷ 0 ∷ 0 ∷ []) ≡ faults [] BadSize 0)
    × (packet (239 ∷ 2 ∷ 9 ∷ 9 ∷ 65 ∷ []) ≡ makes (glyph 100 200 ∷ []))
    × (expanded below (font_with [] (65 ∷ [])) (65 ∷ []) (asked 1 (pos 100)) ≡ faults [] NoFont 0)
    × (expanded below (font_with locals (143 ∷ 1 ∷ [])) (143 ∷ 1 ∷ []) (asked 1 (pos 1073741823)) ≡ faults [] OutOfRange 0)
    × (expanded below (font_with locals []) [] (asked 2 (pos 100)) ≡ faulty NoCode)

-- a fault from below comes first in the chain, and this packet's link behind it
abbrev Chains : Type 0
Chains = packet (65 ∷ 66 ∷ []) ≡ ends (glyph 100 200 ∷ []) (fault Frames (link_of 0 66 9 ∷ link_of 5 1 1 ∷ []))

abbrev pub WorkedPackets : Type 0
WorkedPackets = Characters × Moves × FramesCases × Rules × Faults × Chains
