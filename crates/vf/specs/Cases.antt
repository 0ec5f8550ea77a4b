-- Worked files: a file of 40 bytes over a shelf whose one font is `b`, and what breaks it where.
use Rattle.std.specs.Prelude.{◌≡◌, ℕ, zero, suc, List, [], ◌∷◌, ◌++◌, length, take, drop, Some, None, Ok, Err, Option, Result, slice_index_or, slice_set}
use Rattle.shelf.specs.declared.refusals.Refusal.{Refusal}
use Rattle.shelf.specs.declared.refusals.Refusal.TheVariants.{BrokenVf, NotBelow}
use Rattle.vf.specs.declared.entries.Local.{Local}
use Rattle.vf.specs.declared.entries.Packet.{Packet}
use Rattle.vf.specs.Fonts.{VfFont}
use Rattle.vf.specs.Files.{vf_of}

abbrev below : List (List ℕ)
below = (98 ∷ []) ∷ []

abbrev read : List ℕ → Result VfFont Refusal
read s = vf_of below s

abbrev preamble : List ℕ
preamble = 247 ∷ 202 ∷ 0 ∷ 0 ∷ 0 ∷ 0 ∷ 0 ∷ 0 ∷ 160 ∷ 0 ∷ 0 ∷ []

-- local font `number` is `b` at size 1, in 17 bytes
abbrev definition : ℕ → List ℕ
definition number = 243 ∷ number ∷ 0 ∷ 0 ∷ 0 ∷ 0 ∷ 0 ∷ 16 ∷ 0 ∷ 0 ∷ 0 ∷ 160 ∷ 0 ∷ 0 ∷ 0 ∷ 1 ∷ 98 ∷ []

-- the same with its number in four bytes
abbrev long_definition : ℕ → List ℕ
long_definition number = (246 ∷ 0 ∷ 0 ∷ 0 ∷ []) ++ drop 1 (definition number)

abbrev body : List ℕ
body = 145 ∷ 8 ∷ 0 ∷ 0 ∷ 65 ∷ []

-- the packet of code 1 and width 2^-9, in 10 bytes
abbrev packet : List ℕ
packet = 5 ∷ 1 ∷ 0 ∷ 8 ∷ 0 ∷ body

-- the same with length, code and width in four bytes, the width from its first byte on
abbrev long_packet : List ℕ → List ℕ
long_packet width = (242 ∷ 0 ∷ 0 ∷ 0 ∷ 5 ∷ 0 ∷ 0 ∷ 0 ∷ 1 ∷ []) ++ (width ++ body)

abbrev ending : List ℕ
ending = 248 ∷ 248 ∷ []

-- the definition stands at 11, the packet at 28, the ending at 38
abbrev good : List ℕ
good = preamble ++ (definition 0 ++ (packet ++ ending))

-- definitions of the n numbers below n
abbrev definitions : ℕ → List ℕ
definitions zero = []
definitions (suc n) = definitions n ++ definition n

abbrev locals_of : Result VfFont Refusal → List Local
locals_of (Ok f) = f.locals
locals_of (Err e) = []

abbrev packet_of : Result VfFont Refusal → ℕ → Option Packet
packet_of (Ok f) code = slice_index_or f.packets code None
packet_of (Err e) code = None

abbrev pub Whole : Type 0
Whole =
    (length good ≡ 40)
    × (locals_of (read good) ≡ record { number = 0; font = 0; size = 1048576 } ∷ [])
    × (packet_of (read good) 1 ≡ Some (record { start = 33; length = 5; width = 2048 }))
    × (packet_of (read good) 2 ≡ None)
    × (packet_of (read (preamble ++ (long_packet (255 ∷ 248 ∷ 0 ∷ 0 ∷ []) ++ ending))) 1 ≡ Some (record { start = 24; length = 5; width = 4294443008 }))
    × (packet_of (read (247 ∷ 202 ∷ 2 ∷ 104 ∷ 105 ∷ drop 3 good)) 1 ≡ Some (record { start = 35; length = 5; width = 2048 }))
    × (locals_of (read (preamble ++ ending)) ≡ [])
    × (length (locals_of (read (preamble ++ (definitions 16 ++ ending)))) ≡ 16)

-- everything wrong in the preamble is at 0
abbrev pub Preambles : Type 0
Preambles =
    (read [] ≡ Err (BrokenVf 0))
    × (read (slice_set good 1 2) ≡ Err (BrokenVf 0))
    × (read (slice_set good 2 30) ≡ Err (BrokenVf 0))

-- what is broken in a definition comes before a name that is not below, and that before what is broken later
abbrev pub Definitions : Type 0
Definitions =
    (read (slice_set good 17 1) ≡ Err (BrokenVf 11))
    × (read (slice_set good 17 255) ≡ Err (BrokenVf 11))
    × (read (slice_set good 18 0) ≡ Err (BrokenVf 11))
    × (read (take 27 good) ≡ Err (BrokenVf 11))
    × (read (slice_set good 27 99) ≡ Err (NotBelow 11))
    × (read (slice_set (slice_set good 27 99) 17 1) ≡ Err (BrokenVf 11))
    × (read (slice_set (slice_set good 27 99) 39 3) ≡ Err (NotBelow 11))
    × (read (preamble ++ (definition 0 ++ (long_definition 0 ++ ending))) ≡ Err (BrokenVf 28))
    × (read (preamble ++ (packet ++ (definition 0 ++ ending))) ≡ Err (BrokenVf 21))
    × (read (preamble ++ (definitions 17 ++ ending)) ≡ Err (BrokenVf 283))

abbrev pub Packets : Type 0
Packets =
    (read (take 37 good) ≡ Err (BrokenVf 28))
    × (read (preamble ++ (packet ++ (packet ++ ending))) ≡ Err (BrokenVf 21))
    × (read (preamble ++ (long_packet (1 ∷ 0 ∷ 0 ∷ 0 ∷ []) ++ ending)) ≡ Err (BrokenVf 11))
    × (read (slice_set (preamble ++ (long_packet (0 ∷ 0 ∷ 8 ∷ 0 ∷ []) ++ ending)) 18 1) ≡ Err (BrokenVf 11))

abbrev pub Endings : Type 0
Endings =
    (read (take 38 good) ≡ Err (BrokenVf 38))
    × (read (slice_set good 38 247) ≡ Err (BrokenVf 38))
    × (read (slice_set good 39 3) ≡ Err (BrokenVf 39))
    × (read preamble ≡ Err (BrokenVf 11))

abbrev pub WorkedFiles : Type 0
WorkedFiles = Whole × Preambles × Definitions × Packets × Endings
