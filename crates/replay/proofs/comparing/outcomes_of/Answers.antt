use Rattle.std.proofs.Common.{[], get_or, refl}
use Rattle.replay.specs.Cases.{Case}
use Rattle.replay.proofs.Cases.{one-more}
use Rattle.replay.proofs.comparing.outcomes_of.Goals as goal

pub loop-case-preserved : goal.loop-case-preserved
loop-case-preserved c =
    let none : Case = record { ref_ptr = (0, 0); now = [] } in
    let item : Case = get_or c.args.wanted.now c.loop-case.case-index none in
    let case : Case = record { ref_ptr = item.ref_ptr; now = item.now } in
    one-more c.args.wanted.now c.args.got.now _ _ _ _ _ none case _ c.loop-case.invariant c.loop-case-test.true refl refl c.in_ok-at.ensures.told c.in_ok-at.ensures.taken
