use Rattle.std.proofs.Common.{length, ap, arith}
use Rattle.std.proofs.lemmas.List.{length-take}
use Rattle.std.proofs.lemmas.Result.{err_from_is_err_and}
use Rattle.copies.specs.Marks.{Pen, faces_of}
use Rattle.writing.proofs.Passed.{onward_more, onward-all, onward-full}
use Rattle.writing.proofs.ShortNames.{short_name}
use Rattle.writing.proofs.passing.pass_over.Goals as goal

pub returns-in_err-pen-clause-full : goal.returns-in_err-pen-clause-full
returns-in_err-pen-clause-full g c =
    let p = err_from_is_err_and c.from_residual.result c.from_residual.ensures.1 in
    let e = c.in_err-pen.ensures.full in
    rw (p.1, p.2) (e.0, onward-full (faces_of (g.S.Shelf.means c.args.shelf.now)) _ _ _ _ _ c.loop-mark-test.true e.1 c.loop-mark.invariant)

pub loop-mark-preserved : goal.loop-mark-preserved
loop-mark-preserved g c =
    let m = g.S.Shelf.means c.args.shelf.now in
    onward_more (faces_of m) _ _ _ _ _ _ (λ k. short_name m k (g.met.S.Shelf.lawful c.args.shelf.now)) c.loop-mark-test.true c.in_ok-pen.ensures.done c.loop-mark.invariant

pub returns-clause-done : goal.returns-clause-done
returns-clause-done g c = onward-all _ _ _ _ _ c.loop-mark-test.false c.loop-mark.invariant

pub returns-clause-few : goal.returns-clause-few
returns-clause-few g c =
    let all = onward-all _ _ _ _ _ c.loop-mark-test.false c.loop-mark.invariant in
    omega (arith, ap (λ (p : Pen). length p.pairs) all, length-take c.loop-mark.table.count c.loop-mark.table.pairs)
