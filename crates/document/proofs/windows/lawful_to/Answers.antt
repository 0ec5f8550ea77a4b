-- One window more, from the next number on.
use Rattle.std.proofs.Common.{arith}
use Rattle.document.proofs.Joins.{window_next, all-judged}
use Rattle.document.proofs.windows.lawful_to.Goals as goal

pub loop-n-preserved-then-lo-eq0 : goal.loop-n-preserved-then-lo-eq0
loop-n-preserved-then-lo-eq0 c =
    let i = c.loop-n.invariant in
    let bound = c.in-Some.ensures.bound in
    record { front = i.front; at = i.at; room = omega (arith, bound); stop = window_next _ _ _ _ _ _ _ _ _ _ i.front i.at i.stop bound.0 c.in-Some.ensures.none c.window.ensures }

pub loop-n-preserved : goal.loop-n-preserved
loop-n-preserved c =
    let i = c.loop-n.invariant in
    let bound = c.in-Some.ensures.bound in
    record { front = i.front; at = i.at; room = omega (arith, bound); stop = window_next _ _ _ _ _ _ _ _ _ _ i.front i.at i.stop bound.0 c.in-Some.ensures.none c.window-else-lo-eq0.ensures }

pub returns : goal.returns
returns c =
    let i = c.loop-n.invariant in
    all-judged _ _ _ _ _ i.stop (rw (i.front, i.at, c.in_default.is) at c.least.ensures.none)
