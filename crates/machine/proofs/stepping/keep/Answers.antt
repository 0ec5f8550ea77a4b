use Rattle.std.proofs.lemmas.Result.{err_from_is_err_and}
use Rattle.machine.specs.Steps.{kept}
use Rattle.machine.proofs.Onward.{keeps, fails-on}
use Rattle.machine.proofs.stepping.keep.Goals as goal

pub returns-in_err-n : goal.returns-in_err-n
returns-in_err-n c =
    let p = err_from_is_err_and c.from_residual.result c.from_residual.ensures.1 in
    λ st o chain chain' marks marks' a. rw (p.1, p.2) (fails-on st o chain chain' marks marks' c.args.made a (kept st) c.in_err-n.field-0.0 c.in_err-n.was)

pub returns : goal.returns
returns c = λ st o chain chain' marks marks' a. keeps st o chain chain' marks marks' c.args.made a c.in_ok-n.n _ c.in_ok-n.was
