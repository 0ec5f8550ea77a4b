use Rattle.std.proofs.Common.{arith}
use Rattle.std.proofs.lemmas.List.{at_drop_more, at_drop_all}
use Rattle.script.proofs.Digits.{unsigned_after, taken}
use Rattle.script.proofs.words.UsizeNumber.spelled.Goals as goal

pub loop-letter-preserved : goal.loop-letter-preserved
loop-letter-preserved c = let step = taken c.loop-letter.value in grind (arith, at_drop_more (unsigned_after c.loop-letter.value), step)

pub returns : goal.returns
returns c = let all = at_drop_all (unsigned_after c.loop-letter.value) in grind (arith, all)
