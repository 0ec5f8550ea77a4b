-- Short pages of a document, with the marks, the refusal or the fault and its chain that reading each comes to.
use Rattle.std.specs.Prelude.{◌≡◌, ℕ, ◌+◌, cond, List, [], ◌∷◌, ◌++◌, length, replicate, ℤ, pos, Ok, Err, Result, ◌==◌}
use Rattle.shelf.specs.declared.marks.Link.{Link}
use Rattle.shelf.specs.declared.marks.Mark.{Mark}
use Rattle.shelf.specs.declared.marks.Mark.TheVariants.{Glyph, Rule}
use Rattle.shelf.specs.declared.refusals.Cause.{Cause}
use Rattle.shelf.specs.declared.refusals.Cause.TheVariants.{NotAllowed, PastEnd, Frames, NoFont, NoName, NoCode, OutOfRange}
use Rattle.shelf.specs.declared.refusals.Refusal.{Refusal}
use Rattle.shelf.specs.declared.refusals.Refusal.TheVariants.{NoPage}
use Rattle.shelf.specs.Meaning.{Meaning}
use Rattle.shelf.specs.Outcomes.{Outcome, well, fault, ends, faulty}
use Rattle.reading.specs.Reading.{reading}

abbrev link_of : ℕ → ℕ → ℕ → Link
link_of font code place = record { font = font; code = code; place = place }

-- a shelf of one font, `b`: code 65 is one glyph of width 1,000, code 66 faults below, the others are none of its codes
abbrev shelf : Meaning
shelf =
    record {
      names = (98 ∷ []) ∷ [];
      faces = [];
      outcome = λ font size code h v. cond (code == 65) (ends (Glyph 0 size code h v ∷ []) (well (pos 1000))) (cond (code == 66) (ends [] (fault Frames (link_of 0 66 9 ∷ []))) (faulty NoCode));
    }

-- num, den, and mag 1000
abbrev units : List ℕ
units = 1 ∷ 131 ∷ 146 ∷ 192 ∷ 28 ∷ 59 ∷ 0 ∷ 0 ∷ 0 ∷ 0 ∷ 3 ∷ 232 ∷ []

-- a font of a name of one byte, by a number, at a size, in 17 bytes
abbrev font : ℕ → ℕ → ℕ → List ℕ
font number size name = 243 ∷ number ∷ 0 ∷ 0 ∷ 0 ∷ 0 ∷ 0 ∷ 0 ∷ 0 ∷ size ∷ 0 ∷ 0 ∷ 0 ∷ 5 ∷ 0 ∷ 1 ∷ name ∷ []

-- 139, ten counts of 0, a pointer that leads nowhere
abbrev begin : List ℕ
begin = 139 ∷ (replicate 40 0 ++ (255 ∷ 255 ∷ 255 ∷ 255 ∷ []))

-- font 7 is `b`, font 8 is `c`
abbrev behind : ℕ → List ℕ
behind q =
    248 ∷ 0 ∷ 0 ∷ 0 ∷ 15 ∷ (units ++ (replicate 11 0 ++ (1 ∷ (font 7 5 98 ++ (font 8 5 99 ++ (249 ∷ 0 ∷ 0 ∷ 0 ∷ q ∷ 2 ∷ 223 ∷ 223 ∷ 223 ∷ 223 ∷ []))))))

-- a document of one page, whose commands begin at 60
abbrev document : List ℕ → List ℕ
document commands = 247 ∷ 2 ∷ (units ++ (0 ∷ (begin ++ (commands ++ behind (60 + length commands)))))

abbrev page : List ℕ → Result (Outcome (Unit {0})) Refusal
page commands = reading shelf (document commands) 1

abbrev makes : List Mark → Result (Outcome (Unit {0})) Refusal
makes marks = Ok (ends marks (well tt))

abbrev faults : List Mark → Cause → ℕ → Result (Outcome (Unit {0})) Refusal
faults marks cause place = Ok (ends marks (fault cause (link_of 65535 1 place ∷ [])))

abbrev glyph : ℕ → ℕ → Mark
glyph h v = Glyph 0 5 65 (pos h) (pos v)

-- fonts: none is selected at first, and the postamble's definitions hold, by name
abbrev Fonts : Type 0
Fonts =
    (page (178 ∷ 65 ∷ 140 ∷ []) ≡ makes (glyph 0 0 ∷ []))
    × (page (65 ∷ 140 ∷ []) ≡ faults [] NoFont 60)
    × (page (180 ∷ 140 ∷ []) ≡ faults [] NoFont 60)
    × (page (179 ∷ 140 ∷ []) ≡ faults [] NoName 60)
    × (page (font 7 9 98 ++ (178 ∷ 65 ∷ 140 ∷ [])) ≡ makes (glyph 0 0 ∷ []))
    × (page (font 9 5 98 ++ (180 ∷ 140 ∷ [])) ≡ faults [] NoFont 77)
    × (page (238 ∷ 0 ∷ 0 ∷ 0 ∷ 7 ∷ 65 ∷ 140 ∷ []) ≡ makes (glyph 0 0 ∷ []))

-- lengths stand for themselves, from (0, 0)
abbrev Lengths : Type 0
Lengths =
    (page (178 ∷ 65 ∷ 65 ∷ 140 ∷ []) ≡ makes (glyph 0 0 ∷ glyph 1000 0 ∷ []))
    × (page (178 ∷ 143 ∷ 7 ∷ 157 ∷ 9 ∷ 65 ∷ 140 ∷ []) ≡ makes (glyph 7 9 ∷ []))
    × (page (178 ∷ 146 ∷ 1 ∷ 0 ∷ 0 ∷ 0 ∷ 65 ∷ 140 ∷ []) ≡ makes (glyph 16777216 0 ∷ []))
    × (page (137 ∷ 1 ∷ 0 ∷ 0 ∷ 0 ∷ 0 ∷ 0 ∷ 0 ∷ 2 ∷ 140 ∷ []) ≡ makes (Rule 16777216 2 (pos 0) (pos 0) ∷ []))
    × (page (178 ∷ 146 ∷ 63 ∷ 255 ∷ 255 ∷ 255 ∷ 133 ∷ 65 ∷ 140 ∷ []) ≡ makes (glyph 1073741823 0 ∷ []))
    × (page (146 ∷ 63 ∷ 255 ∷ 255 ∷ 255 ∷ 143 ∷ 1 ∷ 140 ∷ []) ≡ faults [] OutOfRange 65)

-- the end: by eop alone, and what is behind it is not looked at
abbrev Ends : Type 0
Ends =
    (page (140 ∷ []) ≡ makes [])
    × (page (140 ∷ 139 ∷ []) ≡ makes [])
    × (page [] ≡ faults [] PastEnd 60)
    × (page (138 ∷ []) ≡ faults [] PastEnd 61)
    × (page (143 ∷ []) ≡ faults [] PastEnd 60)
    × (page (138 ∷ 139 ∷ 140 ∷ []) ≡ faults [] NotAllowed 61)
    × (page (141 ∷ 140 ∷ []) ≡ faults [] Frames 61)

-- faults of a character, and its chain before the page's link
abbrev Characters : Type 0
Characters =
    (page (178 ∷ 65 ∷ 67 ∷ 140 ∷ []) ≡ faults (glyph 0 0 ∷ []) NoCode 62)
    × (page (178 ∷ 66 ∷ 140 ∷ []) ≡ Ok (ends [] (fault Frames (link_of 0 66 9 ∷ link_of 65535 1 61 ∷ []))))

-- pages are numbered from 1
abbrev Numbers : Type 0
Numbers =
    (reading shelf (document (140 ∷ [])) 0 ≡ Err NoPage)
    × (reading shelf (document (140 ∷ [])) 2 ≡ Err NoPage)

abbrev pub WorkedPages : Type 0
WorkedPages = Fonts × Lengths × Ends × Characters × Numbers
