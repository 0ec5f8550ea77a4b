-- The status that the program ends with.
use Rattle.std.specs.Prelude.{ℕ}
use Rattle.terminal.specs.declared.endings.Ended.{Ended}
use Rattle.terminal.specs.declared.endings.Ended.TheVariants.{Done, Refused, Differs, Misused}

abbrev pub status_of : Ended → ℕ
status_of Done = 0
status_of Refused = 1
status_of Differs = 1
status_of Misused = 1
