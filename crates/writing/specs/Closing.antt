-- What closing a copy comes to: its length with the closing behind it, or no room, and then all is as it was.
use Rattle.std.specs.Prelude.{ℕ, cond, List, Ok, Err, Result, nat_le}
use Rattle.shelf.specs.declared.refusals.Refusal.{Refusal}
use Rattle.shelf.specs.declared.refusals.Refusal.TheVariants.{OutputFull}
use Rattle.shelf.specs.Meaning.{Facts}
use Rattle.copies.specs.Files.{Opening, closing_bytes, closed_length}
use Rattle.copies.specs.Pages.{Progress}
use Rattle.copies.specs.Writing.{overwritten}
use Rattle.writing.specs.Standings.{room}

abbrev pub closed_over : (ℕ → Facts) → Opening → Progress → List ℕ → Result ℕ Refusal × List ℕ
closed_over F o g out =
    cond (nat_le (closed_length F o g) (room out))
    (Ok (closed_length F o g), overwritten g.used (closing_bytes F o g) out)
    (Err OutputFull, out)
