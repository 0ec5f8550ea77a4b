use Rattle.std.proofs.Common.{rules}
use Rattle.numbers.proofs.Scales.{share-below}
use Rattle.numbers.proofs.fix_words.Halved.share.Goals as goal

pub returns-clause-bound : goal.returns-clause-bound
returns-clause-bound c = search (rules, share-below)
