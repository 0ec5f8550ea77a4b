use Rattle.std.proofs.Common.{refl, inl, inr, arith}
use Rattle.numbers.proofs.Scales.{halvings_are}
use Rattle.numbers.proofs.fix_words.halvings_of.Goals as goal

pub returns-then-size-lt8388608 : goal.returns-then-size-lt8388608
returns-then-size-lt8388608 c = record { value = halvings_are 0 c.args.size (omega arith) (inl refl) (omega arith); bound = omega arith }

pub returns-then-size-lt16777216 : goal.returns-then-size-lt16777216
returns-then-size-lt16777216 c = record { value = halvings_are 1 c.args.size (omega arith) (inr (omega arith)) (omega arith); bound = omega arith }

pub returns-then-size-lt33554432 : goal.returns-then-size-lt33554432
returns-then-size-lt33554432 c = record { value = halvings_are 2 c.args.size (omega arith) (inr (omega arith)) (omega arith); bound = omega arith }

pub returns-then-size-lt67108864 : goal.returns-then-size-lt67108864
returns-then-size-lt67108864 c = record { value = halvings_are 3 c.args.size (omega arith) (inr (omega arith)) (omega arith); bound = omega arith }

pub returns-else-size-lt67108864 : goal.returns-else-size-lt67108864
returns-else-size-lt67108864 c = record { value = halvings_are 4 c.args.size (omega arith) (inr (omega arith)) (omega arith); bound = omega arith }
