-- The font has not been defined so far.
use Rattle.document.specs.Fonts.{defines}
use Rattle.document.proofs.Walks.{Walked}
use Rattle.document.proofs.fonts.font_from.Given as goal

abbrev pub invariant-loop-definition : goal.invariant-loop-definition
invariant-loop-definition l = Walked (λ k ms. defines l.entries.front.now l.number k) l.entries l.definition-iterator
