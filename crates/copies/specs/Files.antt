-- The file that a copy closes to: what stands in front, the pages, and the closing.
use Rattle.std.specs.Prelude.{ℕ, suc, ◌+◌, ◌-◌, ◌%◌, List, [], ◌∷◌, ◌++◌, length, replicate}
use Rattle.numbers.specs.Bytes.{digits}
use Rattle.shelf.specs.Meaning.{Facts}
use Rattle.copies.specs.declared.pairs.Pair.{Pair}
use Rattle.copies.specs.Marks.{define_bytes}
use Rattle.copies.specs.Pages.{Page, Progress, no_page, page_bytes, with_page}

-- what a copy takes from the document that it was opened on: its magnification, and the height and width of its largest page
pub record Opening : Type 0 where
  pub mag : ℕ
  pub l : ℕ
  pub u : ℕ

-- num and den: a length counts 1/65,536 point, 25,400,000 / 473,628,672 of 10^-7 metres
abbrev pub units : List ℕ
units = digits 4 25400000 ++ digits 4 473628672

-- 247 2, num, den, mag and a comment of no bytes
unfoldable pub front_bytes : ℕ → List ℕ
front_bytes mag = 247 ∷ (2 ∷ (units ++ (digits 4 mag ++ (0 ∷ []))))

-- the definitions of pairs, by number
unfoldable pub fonts_bytes : (ℕ → Facts) → ℕ → List Pair → List ℕ
fonts_bytes F n [] = []
fonts_bytes F n (p ∷ ps) = define_bytes n p.size (F p.face) ++ fonts_bytes F (suc n) ps

-- 248, the last page, num, den, mag, l, u, 0, the number of pages
unfoldable pub post_bytes : Opening → Progress → List ℕ
post_bytes o g =
    248 ∷ (digits 4 g.last ++ (units ++ (digits 4 o.mag ++ (digits 4 o.l ++ (digits 4 o.u ++ (digits 2 0 ++ digits 2 g.count))))))

-- four to seven, to a multiple of 4
abbrev pub padding : ℕ → ℕ
padding n = 7 - (n + 3) % 4

-- 249, the place of the 248, 2, and bytes 223 after n bytes
unfoldable pub end_bytes : ℕ → ℕ → List ℕ
end_bytes q n = 249 ∷ (digits 4 q ++ (2 ∷ replicate (padding (n + 6)) 223))

-- what close appends
unfoldable pub closing_bytes : (ℕ → Facts) → Opening → Progress → List ℕ
closing_bytes F o g =
    post_bytes o g ++ (fonts_bytes F 0 g.pairs ++ end_bytes g.used (g.used + length (post_bytes o g ++ fonts_bytes F 0 g.pairs)))

-- the length of the closed file
abbrev pub closed_length : (ℕ → Facts) → Opening → Progress → ℕ
closed_length F o g = g.used + length (closing_bytes F o g)

-- a copy without pages
abbrev pub begun : Progress
begun = record { used = 15; last = no_page; count = 0; pairs = [] }

-- how far a copy of these pages has come, the newest page first
unfoldable pub progress : (ℕ → Facts) → List Page → Progress
progress F [] = begun
progress F (p ∷ ps) = with_page F (progress F ps) p

-- the bytes before the closing
unfoldable pub body : (ℕ → Facts) → ℕ → List Page → List ℕ
body F mag [] = front_bytes mag
body F mag (p ∷ ps) = body F mag ps ++ page_bytes F (progress F ps) p

-- the closed file
unfoldable pub closed : (ℕ → Facts) → Opening → List Page → List ℕ
closed F o ps = body F o.mag ps ++ closing_bytes F o (progress F ps)
