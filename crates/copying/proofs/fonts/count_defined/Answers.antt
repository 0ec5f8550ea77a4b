use Rattle.std.proofs.Common.{arith, sym, ◌∙◌}
use Rattle.copying.proofs.Counts.{at-end, is-none, is-one, one-more}
use Rattle.copying.proofs.fonts.count_defined.Goals as goal

pub loop-definition-preserved-then-is_some : goal.loop-definition-preserved-then-is_some
loop-definition-preserved-then-is_some c =
    one-more _ _ _ _ c.loop-definition.invariant _ c.in-Some.ensures.steps c.requires 1 _ (is-one _ (sym c.is_some.ensures ∙ c.if-is_some.true)) (omega arith) (omega arith)

pub loop-definition-preserved : goal.loop-definition-preserved
loop-definition-preserved c =
    one-more _ _ _ _ c.loop-definition.invariant _ c.in-Some.ensures.steps c.requires 0 _ (is-none _ (sym c.is_some.ensures ∙ c.if-is_some.false)) (omega arith) (omega arith)

pub returns : goal.returns
returns c = at-end _ _ _ c.loop-definition.invariant c.requires c.in-None.ensures.steps
