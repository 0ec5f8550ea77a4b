-- What a shelf of fonts means: its fonts by name, its faces, and the outcome of each character.
use Rattle.std.specs.Prelude.{ℕ, cond, ◌&&◌, List, [], ◌∷◌, length, ℤ, Some, None, Ok, Err, Option, Result, nat_lt}
use Rattle.std.specs.Option.{option_map}
use Rattle.std.specs.List.{slice_get}
use Rattle.numbers.specs.Lengths.{good_size, in_range}
use Rattle.shelf.specs.declared.marks.Mark.TheVariants.{Glyph}
use Rattle.shelf.specs.declared.refusals.Cause.{Cause}
use Rattle.shelf.specs.declared.refusals.Cause.TheVariants.{NoFont, NoCode, OutOfRange, BadSize}
use Rattle.shelf.specs.Outcomes.{Outcome, well, ends, faulty}

-- what `face` tells of a face
pub record Facts : Type 0 where
  pub name : List ℕ
  pub checksum : ℕ
  pub design : ℕ

-- a face: a real font, with a width or none for each size and code
pub record FaceMeaning : Type 0 where
  pub facts : Facts
  pub width_at : ℕ → ℕ → Option ℤ

-- the outcome by font, size, code and start point
pub record Meaning : Type 0 where
  pub names : List (List ℕ)
  pub faces : List FaceMeaning
  pub outcome : ℕ → ℕ → ℕ → ℤ → ℤ → Outcome ℤ

abbrev pub facts_of : FaceMeaning → Facts
facts_of f = f.facts

-- what is told of face k
abbrev pub told_of : Meaning → ℕ → Option Facts
told_of m k = option_map facts_of (slice_get m.faces k)

-- the width of a face that may not be there
abbrev pub width_in : Option FaceMeaning → ℕ → ℕ → Option ℤ
width_in (Some f) size code = f.width_at size code
width_in None size code = None

-- the outcome of face k, of which this is the width
abbrev pub face_outcome : ℕ → Option ℤ → ℕ → ℕ → ℤ → ℤ → Outcome ℤ
face_outcome k (Some w) size code h v = ends (Glyph k size code h v ∷ []) (well w)
face_outcome k None size code h v = faulty NoCode

-- a start point in range
abbrev pub point_at : ℤ → ℤ → Option (ℤ × ℤ)
point_at h v = cond (in_range h && in_range v) (Some (h, v)) None

-- the checks of a call, in order: the font, the size, the start point
abbrev pub started : ℕ → ℕ → ℕ → ℤ → ℤ → Result (ℤ × ℤ) Cause
started fonts font size h v =
    cond (nat_lt font fonts)
    (cond (good_size size)
    (cond (in_range h && in_range v) (Ok (h, v)) (Err OutOfRange))
    (Err BadSize))
    (Err NoFont)

abbrev pub unless : {W : Type 0} → Result (ℤ × ℤ) Cause → Outcome W → Outcome W
unless (Err k) o = faulty k
unless (Ok p) o = o

-- what a call of `character` comes to: a failed check, or else the outcome
unfoldable pub called : Meaning → ℕ → ℕ → ℕ → ℤ → ℤ → Outcome ℤ
called m font size code h v = unless (started (length m.names) font size h v) (m.outcome font size code h v)
