-- What a copy was opened with, and how far it has come, with the pairs of the table beside it.
use Rattle.std.specs.Prelude.{ℕ, List, length, min}
use Rattle.copies.specs.declared.pairs.Pair.{Pair}
use Rattle.copies.specs.Files.{Opening}
use Rattle.copies.specs.Pages.{Progress}
use Rattle.writing.specs.declared.standings.Opening.{Opening as Opened}
use Rattle.writing.specs.declared.standings.Standing.{Standing}

abbrev pub opening_of : Opened → Opening
opening_of o = record { mag = o.mag; l = o.l; u = o.u }

abbrev pub progress_of : Standing → List Pair → Progress
progress_of s ps = record { used = s.used; last = s.last; count = s.pages; pairs = ps }

-- what is answered of the progress; the pairs stand in the table
abbrev pub standing_of : Progress → Standing
standing_of g = record { used = g.used; last = g.last; pages = g.count }

-- how many bytes of an output may be used
abbrev pub room : List ℕ → ℕ
room out = min (length out) 16777216
