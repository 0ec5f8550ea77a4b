-- An item's refusal, one item on, and the end of the file.
use Rattle.std.proofs.Common.{sym, ap, ◌∙◌}
use Rattle.std.proofs.lemmas.Result.{err_from_is_err_and}
use Rattle.vf.specs.Files.{reading_of, ended}
use Rattle.vf.proofs.Walks.{turn, broke, done, unfinished}
use Rattle.vf.proofs.reading.Reader.items.Goals as goal

pub returns-in_err-at : goal.returns-in_err-at
returns-in_err-at g c =
    let p = err_from_is_err_and c.from_residual.result c.from_residual.ensures.1 in
    rw (p.1, p.2) (sym (c.loop-at.invariant.1 ∙ broke _ _ _ (reading_of c.loop-at.self) (reading_of c.item.new.self) _ c.in_err-at.ensures.is c.loop-at-test.true))

pub loop-at-preserved : goal.loop-at-preserved
loop-at-preserved g c =
    let on = c.in_ok-at.ensures in
    (on.within, c.loop-at.invariant.1 ∙ turn _ _ _ _ (reading_of c.loop-at.self) (reading_of c.item.new.self) on.is on.on on.within)

pub returns-in-Ending : goal.returns-in-Ending
returns-in-Ending g c =
    sym (c.loop-at.invariant.1 ∙ done _ _ _ _ c.loop-at-test.false ∙ ap (ended c.loop-at.at (reading_of c.loop-at.self)) c.in-Ending.is)

pub returns-in_default : goal.returns-in_default
returns-in_default g c =
    sym (c.loop-at.invariant.1 ∙ done _ _ _ _ c.loop-at-test.false ∙ unfinished _ (reading_of c.loop-at.self) _ c.in_default.not-Ending)
