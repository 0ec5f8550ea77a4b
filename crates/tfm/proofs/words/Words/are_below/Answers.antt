use Rattle.std.proofs.Common.{rules, ltb}
use Rattle.tfm.proofs.words.Words.are_below.Goals as goal

pub returns : goal.returns
returns c = c.each.ensures (λ x. ltb x c.args.limit) (λ x b q. search rules)
