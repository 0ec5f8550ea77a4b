use Rattle.std.proofs.Common.{rules}
use Rattle.numbers.specs.FixWords.{begins_fix_word}
use Rattle.tfm.proofs.words.Words.are_fix_words.Goals as goal

pub returns : goal.returns
returns c = c.each.ensures begins_fix_word (λ x b q. search rules)
