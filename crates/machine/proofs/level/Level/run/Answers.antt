use Rattle.std.proofs.Common.{◌≡◌, true, false, arith, ◌+◌, ◌≤◌, if◌then◌else◌, [], length, ap, ◌∙◌, rules}
use Rattle.std.proofs.lemmas.List.{take_rest}
use Rattle.std.proofs.lemmas.Result.{err_from_is_err_and}
use Rattle.shelf.specs.Outcomes.{fault}
use Rattle.shelf.specs.declared.refusals.Cause.TheVariants.{PastEnd}
use Rattle.machine.specs.Steps.{at_end}
use Rattle.machine.specs.Views.{view_of, next}
use Rattle.machine.proofs.Turning.{at-link}
use Rattle.machine.proofs.Looping.{put_rest, makes-room, fails-at-end, ends-well, fails_there, is-done, goes_on}
use Rattle.machine.proofs.level.Level.run.Goals as goal

pub overflow_add-used : goal.overflow_add-used
overflow_add-used g c =
    let room : c.loop-at.used + c.in_ok-t.t.marks ≤ length c.loop-at.marks =
    makes-room _ _ _ _ _ _ _ _ _ _ c.loop-at.invariant _ _ _ _ (simp take_rest at c.in_ok-t.ensures.is) in
    search rules

pub returns-then-not-t : goal.returns-then-not-t
returns-then-not-t g c =
    let off : c.in_ok-t.t.on ≡ false = grind arith in
    is-done _ _ _ _ _ _ _ _ _ _ c.loop-at.invariant c.loop-at-test.true _ _ _ (put_rest c.loop-at.marks _ c.loop-at.used) _ _ _ (ap (λ b. next b (view_of c.turn.new.m)) off) (simp take_rest at c.in_ok-t.ensures.is)

pub loop-at-preserved : goal.loop-at-preserved
loop-at-preserved g c =
    let on : c.in_ok-t.t.on ≡ true = grind arith in
    goes_on _ _ _ _ _ _ _ _ _ _ c.loop-at.invariant c.loop-at-test.true _ _ _ (put_rest c.loop-at.marks _ c.loop-at.used) _ _ _ _ (ap (λ b. next b (view_of c.turn.new.m)) on) c.in_ok-t.ensures.longer c.in_ok-t.ensures.within (simp take_rest at c.in_ok-t.ensures.is)

pub returns-in_err-t : goal.returns-in_err-t
returns-in_err-t g c =
    let p = err_from_is_err_and c.from_residual.result c.from_residual.ensures.1 in
    rw (p.1, p.2) (fails_there _ _ _ _ _ _ _ _ _ _ c.loop-at.invariant c.loop-at-test.true _ _ _ (put_rest c.loop-at.marks _ c.loop-at.used) c.in_err-t.field-0.0 (simp take_rest at c.in_err-t.ensures.is))

pub returns-in-Ok : goal.returns-in-Ok
returns-in-Ok g c =
    let e = c.in-Ok.ensures ∙ ap (λ b. if b then fault PastEnd [] else at_end (view_of c.loop-at.m) tt) c.is_page.ensures in
    ends-well _ _ _ _ _ _ _ _ _ _ c.loop-at.invariant c.loop-at-test.false e

pub returns-in-Err : goal.returns-in-Err
returns-in-Err g c =
    let e = c.in-Err.ensures ∙ ap (λ b. if b then fault PastEnd [] else at_end (view_of c.loop-at.m) tt) c.is_page.ensures in
    fails-at-end _ _ _ _ _ _ _ _ _ _ c.loop-at.invariant c.in-Err.cause _ _ c.loop-at-test.false e (at-link _ _ _ _ _ _ c.link.ensures (rw c.into.ensures at c.pass_on.ensures.fault) (rw c.into.ensures at c.pass_on.ensures.full))
