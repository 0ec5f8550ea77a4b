use Rattle.std.proofs.Common.{arith, rules}
use Rattle.std.proofs.lemmas.List.{places}
use Rattle.numbers.proofs.Digits.{pushed, number-push}
use Rattle.numbers.proofs.bytes.padded.Goals as goal

pub overflow_mul-n : goal.overflow_mul-n
overflow_mul-n c = omega (arith, (pushed c.loop-i.n 0 c.loop-i.i c.loop-i.invariant.bound (omega arith) (omega arith)).0)

pub overflow_add-n : goal.overflow_add-n
overflow_add-n c = omega (arith, (pushed c.loop-i.n c.from.result c.loop-i.i c.loop-i.invariant.bound (omega arith) (omega arith)).0)

pub loop-i-preserved : goal.loop-i-preserved
loop-i-preserved c =
    record {
      value = number-push c.args.bytes.now c.args.place c.loop-i.i _ _ c.loop-i.invariant.value (search (rules, places));
      bound = (pushed c.loop-i.n c.from.result c.loop-i.i c.loop-i.invariant.bound (omega arith) (omega arith)).1;
    }
