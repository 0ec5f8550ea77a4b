-- What a page that is to be added to a copy comes to: a refusal, and then all is as it was, or one page more.
use Rattle.std.specs.Prelude.{ℕ, cond, ◌||◌, List, length, Some, None, Ok, Err, Option, Result, nat_lt}
use Rattle.shelf.specs.declared.refusals.Refusal.{Refusal}
use Rattle.shelf.specs.declared.refusals.Refusal.TheVariants.{PairsFull, OutputFull}
use Rattle.shelf.specs.Meaning.{Facts}
use Rattle.copies.specs.Files.{Opening, closed_length}
use Rattle.copies.specs.Pages.{Page, Progress, page_bytes, with_page}
use Rattle.copies.specs.Writing.{overwritten}
use Rattle.writing.specs.declared.standings.Standing.{Standing}
use Rattle.writing.specs.Standings.{standing_of, room}

-- the first reason against a page: a 65th pair; then a 65,536th page, or no room for the copy closed behind it
abbrev pub page_refused : (ℕ → Facts) → Opening → Progress → Page → ℕ → Option Refusal
page_refused F o g p bytes =
    cond (nat_lt 64 (length (with_page F g p).pairs)) (Some PairsFull)
    (cond (nat_lt 65535 (with_page F g p).count || nat_lt bytes (closed_length F o (with_page F g p))) (Some OutputFull) None)

abbrev pub page_added : (ℕ → Facts) → Progress → Page → List ℕ → Option Refusal → Result Standing Refusal × List ℕ
page_added F g p out (Some e) = (Err e, out)
page_added F g p out None = (Ok (standing_of (with_page F g p)), overwritten g.used (page_bytes F g p) out)

-- the answer, and the output then
abbrev pub page_over : (ℕ → Facts) → Opening → Progress → Page → List ℕ → Result Standing Refusal × List ℕ
page_over F o g p out = page_added F g p out (page_refused F o g p (room out))
