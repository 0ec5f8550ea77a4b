use Rattle.std.proofs.Common.{◌≡◌, true, false, rules}
use borrow.Author.Tests.{tests}
use Rattle.std.proofs.lemmas.Iterator.{IsFirst-from_position, YieldsList-from_slice}
use Rattle.numbers.proofs.Seek.{position_is}
use Rattle.numbers.proofs.keyed.first_match.Goals as goal

pub returns-clause-first : goal.returns-clause-first
returns-clause-first g c =
    position_is _ (λ x. g.T.Keyed.has x c.args.key) _
    (IsFirst-from_position _ _ _ (λ x. g.T.Keyed.has x c.args.key ≡ true) (λ x. g.T.Keyed.has x c.args.key ≡ false) c.position.ensures.ran (YieldsList-from_slice c.args.table.now cc) (λ x q k. search (rules, tests)) (λ x q k. search (rules, tests)))
