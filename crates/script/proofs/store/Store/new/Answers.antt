use Rattle.std.proofs.Common.{rules}
use Rattle.script.proofs.Lists.{nothing}
use Rattle.script.proofs.store.Store.new.Goals as goal

pub returns : goal.returns
returns c = nothing _ (λ i d l. let made = c.from_fn.ensures.items.at i d (search rules) in search (rules, made))
