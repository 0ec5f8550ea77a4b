-- Why a line of a script is not carried out, where a TFM shelf is not made.
use Rattle.tfm.specs.declared.entries.NotMade.{NotMade}
use Rattle.tfm.specs.declared.entries.NotMade.TheVariants.{Refused as TfmRefused, NoMemory as TfmNoMemory}
use Rattle.script.specs.declared.problems.Problem.TheVariants.{NoMemory}
use Rattle.replay.specs.declared.stops.Stop.{Stop}
use Rattle.replay.specs.declared.stops.Stop.TheVariants.{Senseless, Refused}

abbrev pub stop_of : NotMade → Stop
stop_of (TfmRefused refusal) = Refused refusal
stop_of (TfmNoMemory error) = Senseless (NoMemory error)
