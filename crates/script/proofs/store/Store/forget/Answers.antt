use Rattle.std.proofs.Common.{arith}
use Rattle.script.proofs.Lists.{nothing}
use Rattle.script.proofs.store.Store.forget.Goals as goal

pub returns : goal.returns
returns c = nothing _ (λ i d l. c.loop-i.invariant.emptied i d (omega (arith, c.loop-i.invariant.long, l)))
