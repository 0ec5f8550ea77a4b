use Rattle.std.proofs.Common.{◌≡◌, ◌<◌, ◌^◌, drop}
use Rattle.script.specs.Spelling.{hexadecimal_after}
use Rattle.script.proofs.words.fix_word.Given as goal

abbrev pub invariant-loop-letter : goal.invariant-loop-letter
invariant-loop-letter l = record { within : l.number < 16 ^ l.letter-index; goes_on : hexadecimal_after 0 l.word ≡ hexadecimal_after l.number (drop l.letter-index l.word) }
