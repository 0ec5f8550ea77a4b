use Rattle.std.proofs.Common.{◌≡◌, length}
use Rattle.terminal.specs.Options.{parsed, fresh, given_of}
use Rattle.terminal.proofs.options.Options.parse.Given as goal

-- what is given so far, and by the words behind, is what all words give
abbrev pub invariant-loop-rest : goal.invariant-loop-rest
invariant-loop-rest l = record {
  known : l.options.known.now ≡ l.fn.known;
  same : parsed l.fn.known fresh l.fn.words ≡ parsed l.fn.known (given_of l.options) l.rest;
}

abbrev pub decreases-loop-rest : goal.decreases-loop-rest
decreases-loop-rest l = length l.rest
