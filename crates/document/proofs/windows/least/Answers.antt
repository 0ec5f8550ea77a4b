-- By the numbers that the walk gives.
use Rattle.std.proofs.Common.{◌∙◌, rules}
use Rattle.document.proofs.Least.{number_from, least_is}
use Rattle.document.proofs.windows.least.Goals as goal

pub returns-clause-none : goal.returns-clause-none
returns-clause-none c =
    let m = c.min.ensures.runs in
    let f = c.filter_map.ensures.runs m.0 m.0.seen m.1 in
    least_is m.0 f.0 c.args.entries c.args.lo c.min.result m.3 f.1 (f.2.0 ∙ m.2) (f.2.3 (number_from c.args.lo) (λ x r g k. search rules))
