-- The layers of a shelf that calls are made on.
use Rattle.std.specs.Prelude.{ℕ, Bool, true, false, Ok, Err, Result}
use Rattle.script.specs.declared.problems.Problem.{Problem}
use Rattle.script.specs.declared.problems.Problem.TheVariants.{NoRankHere}
use Rattle.replay.specs.declared.current.Current.{Current}
use Rattle.replay.specs.declared.current.Current.TheVariants.{Tfm, Rank1, Rank2, Rank3, Rank4, TfmAlone, Alone1, Alone2, Alone3, Alone4}

-- how many ranks it has
abbrev pub ranks : Current → ℕ
ranks (Tfm s) = 0
ranks (Rank1 s) = 1
ranks (Rank2 s) = 2
ranks (Rank3 s) = 3
ranks (Rank4 s) = 4
ranks (TfmAlone s) = 0
ranks (Alone1 s) = 1
ranks (Alone2 s) = 2
ranks (Alone3 s) = 3
ranks (Alone4 s) = 4

-- whether it is the faces alone
abbrev pub is_alone : Current → Bool
is_alone (Tfm s) = false
is_alone (Rank1 s) = false
is_alone (Rank2 s) = false
is_alone (Rank3 s) = false
is_alone (Rank4 s) = false
is_alone (TfmAlone s) = true
is_alone (Alone1 s) = true
is_alone (Alone2 s) = true
is_alone (Alone3 s) = true
is_alone (Alone4 s) = true

-- a rank goes on no fifth place and not on the faces alone
abbrev pub takes_rank : Current → Result (Unit {0}) Problem
takes_rank (Tfm s) = Ok tt
takes_rank (Rank1 s) = Ok tt
takes_rank (Rank2 s) = Ok tt
takes_rank (Rank3 s) = Ok tt
takes_rank (Rank4 s) = Err NoRankHere
takes_rank (TfmAlone s) = Err NoRankHere
takes_rank (Alone1 s) = Err NoRankHere
takes_rank (Alone2 s) = Err NoRankHere
takes_rank (Alone3 s) = Err NoRankHere
takes_rank (Alone4 s) = Err NoRankHere
