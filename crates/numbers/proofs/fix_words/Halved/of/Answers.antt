use Rattle.std.proofs.Common.{rules}
use Rattle.numbers.proofs.Scales.{unit-below}
use Rattle.numbers.proofs.fix_words.Halved.of.Goals as goal

pub invariant_of-result : goal.invariant_of-result
invariant_of-result c = record { small = c.requires; few = c.halvings_of-e.ensures.bound; halvings = c.halvings_of-e.ensures.value; unit = search rules; below = search (rules, unit-below) }
