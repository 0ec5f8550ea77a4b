-- How many bytes a copy uses with a page more: none where the page has a 65th pair.
use Rattle.std.specs.Prelude.{ℕ, ◌+◌, cond, List, length, Ok, Err, Result, nat_lt}
use Rattle.shelf.specs.declared.marks.Mark.{Mark}
use Rattle.shelf.specs.declared.refusals.Refusal.{Refusal}
use Rattle.shelf.specs.declared.refusals.Refusal.TheVariants.{PairsFull}
use Rattle.shelf.specs.Meaning.{Facts}
use Rattle.copies.specs.Marks.{Pen, pen_after_all}
use Rattle.copies.specs.Pages.{Progress, page_pen}

-- the pen behind the marks of a page
abbrev pub pen_behind : (ℕ → Facts) → Progress → List Mark → Pen
pen_behind F g ms = pen_after_all F (page_pen g) ms

-- the page's 140 takes one byte more
abbrev pub page_measured : (ℕ → Facts) → Progress → List Mark → Result ℕ Refusal
page_measured F g ms = cond (nat_lt 64 (length (pen_behind F g ms).pairs)) (Err PairsFull) (Ok ((pen_behind F g ms).at + 1))
