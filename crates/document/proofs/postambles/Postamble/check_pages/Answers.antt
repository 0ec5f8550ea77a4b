-- One pointer more, one that fails, and the last.
use Rattle.std.proofs.Common.{◌∙◌, ap}
use Rattle.shelf.specs.declared.refusals.Refusal.TheVariants.{BrokenPages}
use Rattle.document.specs.Bytes.{four}
use Rattle.document.specs.Legal.{placed}
use Rattle.document.proofs.Chains.{chain-on, chain-off, chain-ends, chain-fails}
use Rattle.document.proofs.postambles.Postamble.check_pages.Goals as goal

pub returns-then-not-leads_to : goal.returns-then-not-leads_to
unfolding four
returns-then-not-leads_to c =
    ap (placed BrokenPages) (chain-off _ _ _ _ _ _ _ c.number-a.ensures.value c.loop-page-test.true c.if-not-leads_to.ensures ∙ c.loop-page.invariant)

pub loop-page-preserved : goal.loop-page-preserved
unfolding four
loop-page-preserved c = chain-on _ _ _ _ _ _ _ c.number-a.ensures.value c.loop-page-test.true c.if-not-leads_to.ensures ∙ c.loop-page.invariant

pub returns-then-number : goal.returns-then-number
unfolding four
returns-then-number c =
    ap (placed BrokenPages) (chain-ends _ _ _ _ _ _ _ c.number.ensures.value c.loop-page-test.false c.if-number.true ∙ c.loop-page.invariant)

pub returns-else-number : goal.returns-else-number
unfolding four
returns-else-number c =
    ap (placed BrokenPages) (chain-fails _ _ _ _ _ _ _ c.number.ensures.value c.loop-page-test.false c.if-number.false ∙ c.loop-page.invariant)
