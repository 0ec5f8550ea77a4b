use Rattle.std.proofs.lemmas.Result.{err_from_is_err_and}
use Rattle.copies.specs.Marks.{faces_of}
use Rattle.writing.proofs.Passed.{onward-all, onward-full}
use Rattle.writing.proofs.ShortNames.{short_name}
use Rattle.writing.proofs.Written.{mark_room, written_more, written-all}
use Rattle.writing.proofs.passing.write_marks.Goals as goal

pub returns-in_err-pen-clause-full : goal.returns-in_err-pen-clause-full
returns-in_err-pen-clause-full g c =
    let p = err_from_is_err_and c.from_residual.result c.from_residual.ensures.1 in
    let e = c.in_err-pen.ensures.full in
    rw (p.1) (onward-full (faces_of (g.S.Shelf.means c.args.shelf.now)) _ _ _ _ _ c.loop-mark-test.true e.1 c.loop-mark.invariant.onward)

pub write-requires-clause-room : goal.write-requires-clause-room
write-requires-clause-room g c =
    mark_room (faces_of (g.S.Shelf.means c.args.shelf.now)) _ _ _ c.requires.room _ _ _ _ c.loop-mark-test.true c.loop-mark.invariant

pub loop-mark-preserved : goal.loop-mark-preserved
loop-mark-preserved g c =
    let m = g.S.Shelf.means c.args.shelf.now in
    written_more (faces_of m) _ _ _ c.requires.room _ _ _ _ _ _ (λ k. short_name m k (g.met.S.Shelf.lawful c.args.shelf.now)) c.loop-mark-test.true c.in_ok-pen.ensures.done c.in_ok-pen.ensures.written c.loop-mark.invariant

pub returns-clause-done : goal.returns-clause-done
returns-clause-done g c = onward-all _ _ _ _ _ c.loop-mark-test.false c.loop-mark.invariant.onward

pub returns-clause-written : goal.returns-clause-written
returns-clause-written g c = written-all _ _ _ _ c.requires.room _ _ _ c.loop-mark-test.false c.loop-mark.invariant
