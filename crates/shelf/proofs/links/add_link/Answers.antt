use Rattle.std.proofs.Common.{arith}
use Rattle.std.proofs.lemmas.List.{set_past}
use Rattle.std.proofs.lemmas.Bool.Decides.{nat_tests}
use Rattle.shelf.proofs.links.add_link.Goals as goal
use Rattle.shelf.proofs.links.add_link.Goals.{then-links-chain, else-links-chain}

pub returns : goal.returns
returns c =
    record {
      count = grind (arith, nat_tests);
      chain = elim c.if-links-chain.branch [ then-links-chain w ↦ grind (arith, nat_tests, w.chain-is) | else-links-chain w ↦ grind (arith, nat_tests, set_past, w.chain-is) ];
    }
