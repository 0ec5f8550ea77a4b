-- A page more, and all of them.
use Rattle.std.proofs.Common.{length, ap, ◌∙◌}
use Rattle.fulatzebi.specs.Flat.{pages_from}
use Rattle.fulatzebi.proofs.Sourcing.{one_more, all_there}
use Rattle.fulatzebi.proofs.flattening.all_pages.Goals as goal

pub loop-k-preserved : goal.loop-k-preserved
loop-k-preserved c = one_more _ _ c.loop-k.k _ _ c.loop-k-test.true c.in_ok-push.ensures.items c.loop-k.invariant

pub returns : goal.returns
returns c = all_there _ _ c.loop-k.k _ c.loop-k-test.false c.loop-k.invariant ∙ ap (pages_from (length c.args.document.now) 0) c.page_count-k-end.ensures
