use Rattle.std.proofs.Common.{sym}
use Rattle.machine.proofs.Turning.{at-link, cut_off, refused-here, carried_out}
use Rattle.machine.proofs.level.Level.turn.Goals as goal

pub returns-in_default-clause-is : goal.returns-in_default-clause-is
returns-in_default-clause-is g c =
    let p = at-link _ _ _ _ _ _ c.link.ensures (rw c.into.ensures at c.pass_on.ensures.fault) (rw c.into.ensures at c.pass_on.ensures.full) in
    cut_off _ _ _ _ _ _ _ c.args.marks.now _ (sym c.in_default.ensures.is) p

pub returns-in-Ok-clause-is : goal.returns-in-Ok-clause-is
returns-in-Ok-clause-is g c = carried_out _ _ _ _ _ _ _ _ _ _ (sym c.in-Some.ensures.is) _ _ c.in-Ok.ensures

pub returns-in-Err-clause-is : goal.returns-in-Err-clause-is
returns-in-Err-clause-is g c =
    let p = at-link _ _ _ _ _ _ c.link-in-Err.ensures c.pass_on-in-Err.ensures.fault c.pass_on-in-Err.ensures.full in
    refused-here _ _ _ _ _ _ _ _ _ _ (sym c.in-Some.ensures.is) _ _ _ c.in-Err.ensures p
