use Rattle.std.proofs.Common.{◌≡◌, ◌<◌, ◌^◌, drop}
use Rattle.script.proofs.Digits.{unsigned_after}
use Rattle.script.proofs.words.UsizeNumber.spelled.Given as goal

abbrev pub invariant-loop-letter : goal.invariant-loop-letter
invariant-loop-letter l = record { within : l.value < 2 ^ 64; goes_on : unsigned_after 0 l.word ≡ unsigned_after l.value (drop l.letter-index l.word) }
