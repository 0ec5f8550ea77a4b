use Rattle.std.proofs.Common.{arith, ◌≡◌, ◌-◌, ◌∙◌, sym}
use Rattle.std.proofs.lemmas.List.{get_or_default}
use Rattle.script.proofs.Lists.{asked}
use Rattle.script.proofs.store.Store.find.Goals as goal

pub returns-then-eq-clause-found : goal.returns-then-eq-clause-found
returns-then-eq-clause-found c =
    let step = asked c.args.name.now c.as_slice-list.result.now (c.loop-i.i - 1) c.index-list-i.result in
    let one : c.index-list-i-then-eq.result ≡ c.index-list-i.result = c.index-list-i-then-eq.is ∙ get_or_default c.as_slice-list.result.now (c.loop-i.i - 1) c.index-list-i-then-eq.result c.index-list-i.result (omega arith) ∙ sym c.index-list-i.is in
    grind (arith, step, one)

pub loop-i-preserved : goal.loop-i-preserved
loop-i-preserved c = let step = asked c.args.name.now c.as_slice-list.result.now (c.loop-i.i - 1) c.index-list-i.result in record { within = omega arith; goes_on = grind (arith, step) }
