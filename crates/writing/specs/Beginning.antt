-- What opening a copy comes to: a front in an output that has room for it closed without pages, or a refusal, and then all is as it was.
use Rattle.std.specs.Prelude.{ℕ, cond, List, Ok, Err, Result, nat_le}
use Rattle.shelf.specs.declared.refusals.Refusal.{Refusal}
use Rattle.shelf.specs.declared.refusals.Refusal.TheVariants.{OutputFull}
use Rattle.shelf.specs.Meaning.{Facts}
use Rattle.copies.specs.Files.{Opening, begun, front_bytes, closed_length}
use Rattle.copies.specs.Writing.{overwritten}
use Rattle.writing.specs.declared.standings.Standing.{Standing}
use Rattle.writing.specs.Standings.{standing_of, room}

abbrev pub begun_over : (ℕ → Facts) → Opening → List ℕ → Result Standing Refusal × List ℕ
begun_over F o out =
    cond (nat_le (closed_length F o begun) (room out))
    (Ok (standing_of begun), overwritten 0 (front_bytes o.mag) out)
    (Err OutputFull, out)
