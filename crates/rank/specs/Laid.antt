-- Where the files of a rank stand in its bytes, and what its fonts are called.
use Rattle.std.specs.Prelude.{ℕ, ◌+◌, Bool, true, ◌&&◌, List, [], ◌∷◌, nat_le}
use Rattle.shelf.specs.Spelling.{spelled}
use Rattle.rank.specs.declared.fonts.Font.{Font}

abbrev pub font_name : Font → List ℕ
font_name f = spelled f.name

-- the bytes in all
abbrev pub total : List Font → ℕ
total [] = 0
total (f ∷ fs) = f.length + total fs

-- each file lies within n bytes
abbrev pub inside : ℕ → List Font → Bool
inside n [] = true
inside n (f ∷ fs) = nat_le (f.start + f.length) n && inside n fs
