-- Nothing yet, and one place more.
use Rattle.std.proofs.Common.{subst, sym, rules}
use Rattle.document.specs.Bytes.{four}
use Rattle.document.proofs.Placing.{Filled, filled_start, filled_more}
use Rattle.document.proofs.judged.placing.fill.Goals as goal

pub loop-left-init : goal.loop-left-init
loop-left-init c = subst (λ x. Filled c.args.bytes.now c.args.document x c.args.document.last c.args.table.now c.args.table.now) (sym (search rules)) (filled_start c.args.bytes.now c.args.document c.args.table.now)

pub loop-left-preserved : goal.loop-left-preserved
unfolding four
loop-left-preserved c = filled_more _ _ _ c.requires _ _ _ _ c.loop-left-test.true c.number-place.ensures.value c.loop-left.invariant
