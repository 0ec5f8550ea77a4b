-- A page of a copy, and how far the copy has come with it.
use Rattle.std.specs.Prelude.{ℕ, ◌+◌, List, [], ◌∷◌, ◌++◌, pos, None}
use Rattle.numbers.specs.Bytes.{digits}
use Rattle.shelf.specs.declared.marks.Mark.{Mark}
use Rattle.shelf.specs.Meaning.{Facts}
use Rattle.copies.specs.declared.pairs.Pair.{Pair}
use Rattle.copies.specs.Marks.{Pen, marks_bytes, pen_after_all}

-- a page: its ten counts as forty bytes, and its marks
pub record Page : Type 0 where
  pub counts : List ℕ
  pub marks : List Mark

-- how many bytes are used, the place of the last page, how many pages and which pairs there are
pub record Progress : Type 0 where
  pub used : ℕ
  pub last : ℕ
  pub count : ℕ
  pub pairs : List Pair

-- -1 in four bytes: no page
abbrev pub no_page : ℕ
no_page = 4294967295

-- a page's marks start after its 45 bytes, from (0, 0) and with no font selected
abbrev pub page_pen : Progress → Pen
page_pen g = record { h = pos 0; v = pos 0; last = None; pairs = g.pairs; at = g.used + 45 }

-- 139, the counts, the place of the page before, the marks, 140
unfoldable pub page_bytes : (ℕ → Facts) → Progress → Page → List ℕ
page_bytes F g p = 139 ∷ (p.counts ++ (digits 4 g.last ++ (marks_bytes F (page_pen g) p.marks ++ (140 ∷ []))))

-- with one page more
unfoldable pub with_page : (ℕ → Facts) → Progress → Page → Progress
with_page F g p =
    record {
      used = (pen_after_all F (page_pen g) p.marks).at + 1;
      last = g.used;
      count = g.count + 1;
      pairs = (pen_after_all F (page_pen g) p.marks).pairs;
    }
