-- The files of a rank as they were added.
use Rattle.std.specs.Prelude.{ℕ, ◌+◌, List, [], ◌∷◌, map, length, take, drop}
use Rattle.vf.specs.Fonts.{VfFont, font_of}
use Rattle.rank.specs.declared.fonts.Font.{Font}
use Rattle.rank.specs.Laid.{font_name}

pub record Entry : Type 0 where
  pub name : List ℕ
  pub file : List ℕ
  pub font : VfFont

abbrev pub entry_name : Entry → List ℕ
entry_name e = e.name

abbrev pub entry_of : List ℕ → Font → Entry
entry_of bytes f = record { name = font_name f; file = take f.length (drop f.start bytes); font = font_of f.vf }

abbrev pub entries_of : List ℕ → List Font → List Entry
entries_of bytes fs = map (entry_of bytes) fs

-- their bytes in all
abbrev pub in_all : List Entry → ℕ
in_all [] = 0
in_all (e ∷ es) = length e.file + in_all es
