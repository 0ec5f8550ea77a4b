-- Worked values, as one statement about the definitions.
use Rattle.std.specs.Prelude.{◌≡◌, ◌-◌, ◌^◌, true, false, [], ◌∷◌, pos, negsuc, Some, None}
use Rattle.numbers.specs.Bytes.{number, signed, digits, complement}
use Rattle.numbers.specs.FixWords.{scaled}
use Rattle.numbers.specs.Lengths.{good_size, moved_to}

-- size 655,360, and one size above 2^23
abbrev pub Scaling : Type 0
Scaling =
    (scaled 655360 524288 ≡ Some (pos 327680))
    × (scaled 655360 (2 ^ 32 - 524288) ≡ Some (negsuc 327679))
    × (scaled 655360 1 ≡ Some (pos 0))
    × (scaled 655360 (2 ^ 32 - 1) ≡ Some (negsuc 0))
    × (scaled 655360 16777216 ≡ None)
    × (scaled 8388609 1048576 ≡ Some (pos 8388608))

-- 255 127 is 65,407 unsigned and -129 signed; bytes written high byte first
abbrev pub Numbers : Type 0
Numbers =
    (number (9 ∷ 255 ∷ 127 ∷ []) 1 2 ≡ 65407)
    × (signed 2 65407 ≡ negsuc 128)
    × (digits 2 (complement 2 (negsuc 128)) ≡ 255 ∷ 127 ∷ [])
    × (signed 1 127 ≡ pos 127)
    × (signed 1 128 ≡ negsuc 127)
    × (digits 4 16909060 ≡ 1 ∷ 2 ∷ 3 ∷ 4 ∷ [])

-- positions stand up to 2^30 - 1 either way, sizes from 1 to 2^27 - 1
abbrev pub Ranges : Type 0
Ranges =
    (moved_to (pos 1073741822) (pos 1) ≡ Some (pos 1073741823))
    × (moved_to (pos 1073741823) (pos 1) ≡ None)
    × (moved_to (negsuc 1073741821) (negsuc 0) ≡ Some (negsuc 1073741822))
    × (moved_to (negsuc 1073741822) (negsuc 0) ≡ None)
    × (good_size 0 ≡ false)
    × (good_size 1 ≡ true)
    × (good_size 134217727 ≡ true)
    × (good_size 134217728 ≡ false)

abbrev pub WorkedValues : Type 0
WorkedValues = Scaling × (Numbers × Ranges)
