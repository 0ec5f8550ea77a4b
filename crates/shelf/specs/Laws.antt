-- What holds of every shelf.
use Rattle.std.specs.Prelude.{◌≡◌, ℕ, ◌^◌, ◌<◌, ◌≤◌, true, List, length, ℤ, pos, negsuc, ◌≤ℤ◌, is_some, Some}
use Rattle.std.specs.List.{AllByRecursion, slice_get}
use Rattle.numbers.specs.Lengths.{good_size, in_range}
use Rattle.shelf.specs.declared.marks.Mark.{Mark}
use Rattle.shelf.specs.declared.marks.Mark.TheVariants.{Glyph, Rule}
use Rattle.shelf.specs.Outcomes.{Outcome, Ending, well, fault}
use Rattle.shelf.specs.Names.{GoodName, found_in}
use Rattle.shelf.specs.Meaning.{Meaning, FaceMeaning, Facts, width_in, face_outcome}

-- a mark in range: a glyph of a face that has a width at its size and code, or a rule positive both ways and below 2^31
abbrev pub GoodMark : List FaceMeaning → Mark → Type 0
GoodMark fs (Glyph face size code h v) = (in_range h ≡ true) × (in_range v ≡ true) × (good_size size ≡ true) × (code < 256) × (is_some (width_in (slice_get fs face) size code) ≡ true)
GoodMark fs (Rule height width h v) = (in_range h ≡ true) × (in_range v ≡ true) × ((0 < height) × (height < 2 ^ 31) × (0 < width) × (width < 2 ^ 31))

-- a width within 2^31 either way, or a chain of at most 65,535 links, all of fonts of the shelf
abbrev pub GoodEnding : ℕ → Ending ℤ → Type 0
GoodEnding fonts (well w) = (negsuc 2147483647 ≤ℤ w) × (w ≤ℤ pos 2147483648)
GoodEnding fonts (fault k ch) = (length ch ≤ 65535) × AllByRecursion (λ l. l.font < fonts) ch

pub record GoodOutcome (m : Meaning) (o : Outcome ℤ) : Type 0 where
  pub good-marks : AllByRecursion (GoodMark m.faces) o.marks
  pub good-ending : GoodEnding (length m.names) o.ending

-- a check sum of four bytes, a design size of 1 to 2,048 points in 2^-20 points
pub record GoodFacts (f : Facts) : Type 0 where
  pub checksum-fits : f.checksum < 2 ^ 32
  pub design-least : 2 ^ 20 ≤ f.design
  pub design-most : f.design < 2 ^ 31

-- face k is the first font that bears its name, and makes one glyph
pub record GoodFace (m : Meaning) (k : ℕ) (f : FaceMeaning) : Type 0 where
  pub good-facts : GoodFacts f.facts
  pub font : ℕ
  pub font-is : found_in m.names f.facts.name ≡ Some font
  pub font-outcome : (size code : ℕ) (h v : ℤ) → m.outcome font size code h v ≡ face_outcome k (f.width_at size code) size code h v

pub record Lawful (m : Meaning) : Type 0 where
  pub few : length m.names ≤ 4096
  pub good-names : AllByRecursion GoodName m.names
  pub few-faces : length m.faces ≤ length m.names
  pub unlike-faces : (i j : ℕ) (f g : FaceMeaning) → slice_get m.faces i ≡ Some f → slice_get m.faces j ≡ Some g → f.facts.name ≡ g.facts.name → i ≡ j
  pub good-faces : (k : ℕ) (f : FaceMeaning) → slice_get m.faces k ≡ Some f → GoodFace m k f
  pub good_outcomes : (font size code : ℕ) (h v : ℤ) → font < length m.names → good_size size ≡ true → in_range h ≡ true → in_range v ≡ true → GoodOutcome m (m.outcome font size code h v)
