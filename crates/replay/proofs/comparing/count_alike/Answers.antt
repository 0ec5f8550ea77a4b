use Rattle.std.proofs.Common.{arith, [], get_or, sym, ap, ◌∙◌}
use Rattle.replay.specs.Cases.{Line, same_line}
use Rattle.replay.proofs.Cases.{alike_more, alike_no, alike_end}
use Rattle.replay.proofs.comparing.count_alike.Goals as goal

abbrev none : Line
none = record { ref_ptr = (0, 0); now = [] }

pub returns-in_default : goal.returns-in_default
returns-in_default c =
    let there = c.in-Some.ensures.lookup.3.1 none in
    let line = get_or c.args.wanted.now c.loop-place.place none in
    alike_no _ _ _ none c.loop-place-test.true (grind arith) (ap (same_line line) (sym there) ∙ sym c.eq.ensures ∙ c.if-eq.false) c.loop-place.invariant.1

pub returns-in_default-2 : goal.returns-in_default-2
returns-in_default-2 c = alike_end _ _ _ (grind arith) c.loop-place.invariant.1

pub loop-place-preserved : goal.loop-place-preserved
loop-place-preserved c =
    let there = c.in-Some.ensures.lookup.3.1 none in
    let line = get_or c.args.wanted.now c.loop-place.place none in
    (grind arith, alike_more _ _ _ none c.loop-place-test.true (grind arith) (ap (same_line line) (sym there) ∙ sym c.eq.ensures ∙ c.if-eq.true) c.loop-place.invariant.1)
