-- What the values of options spell.
use Rattle.std.specs.Prelude.{ℕ, ◌==◌, Bool, cond, nat_lt, List, [], ◌∷◌, length, ℤ, Option, Some, None}
use Rattle.std.specs.Option.{option_zip}
use Rattle.std.specs.List.{before_first, after_first, position_or_len, slice_split}
use Rattle.numbers.specs.Lengths.{good_size}
use Rattle.script.specs.Spelling.{unsigned, signed}
use Rattle.terminal.specs.declared.values.Font.{Font}

-- a number, if it passes the test
abbrev pub kept_if : (ℕ → Bool) → Option ℕ → Option ℕ
kept_if p (Some n) = cond (p n) (Some n) None
kept_if p None = None

-- what stands behind a plus sign, or the whole
abbrev pub without_plus : List ℕ → List ℕ
without_plus [] = []
without_plus (byte ∷ rest) = cond (byte == 43) rest (byte ∷ rest)

-- a size, with a plus sign or without
abbrev pub size_given : List ℕ → Option ℕ
size_given text = kept_if good_size (unsigned (without_plus text))

abbrev pub code_given : List ℕ → Option ℕ
code_given text = kept_if (λ n. nat_lt n 256) (unsigned text)

-- the two parts of a text around the first of these bytes
abbrev pub cut_at : ℕ → List ℕ → Option (List ℕ × List ℕ)
cut_at byte text = cond (nat_lt (position_or_len (λ b. b == byte) text) (length text)) (Some (before_first (λ b. b == byte) text, after_first (λ b. b == byte) text)) None

abbrev pub point_in : Option (List ℕ × List ℕ) → Option (ℤ × ℤ)
point_in (Some p) = option_zip (signed p.0) (signed p.1)
point_in None = None

-- two numbers around a comma
abbrev pub point_given : List ℕ → Option (ℤ × ℤ)
point_given text = point_in (cut_at 44 text)

abbrev pub range_in : Option (List ℕ × List ℕ) → Option (ℕ × ℕ)
range_in (Some p) = option_zip (unsigned p.0) (unsigned p.1)
range_in None = None

-- two numbers around a minus sign
abbrev pub range_given : List ℕ → Option (ℕ × ℕ)
range_given text = range_in (cut_at 45 text)

-- a name and a file
pub record Named : Type 0 where
  pub name : List ℕ
  pub file : List ℕ

abbrev pub font_view : Font → Named
font_view f = record { name = f.name.now; file = f.file.now }

abbrev pub font_in : Option (List ℕ × List ℕ) → Option Named
font_in (Some p) = Some (record { name = p.0; file = p.1 })
font_in None = None

-- a name and a file around the first equals sign
abbrev pub font_given : List ℕ → Option Named
font_given text = font_in (cut_at 61 text)

-- one font more in front
abbrev pub onto : Option Named → Option (List Named) → Option (List Named)
onto (Some f) (Some fs) = Some (f ∷ fs)
onto (Some f) None = None
onto None fs = None

-- the font that each text names; none where one names none
abbrev pub all_fonts : List (List ℕ) → Option (List Named)
all_fonts [] = Some []
all_fonts (t ∷ ts) = onto (font_given t) (all_fonts ts)

-- names and files between commas
abbrev pub fonts_given : List ℕ → Option (List Named)
fonts_given text = all_fonts (slice_split (λ b. b == 44) text)
