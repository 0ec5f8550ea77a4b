use Rattle.std.proofs.Common.{sym, ◌∙◌}
use Rattle.copying.proofs.Same.{marks-are}
use Rattle.copying.proofs.checks.are_same.Goals as goal

pub returns : goal.returns
returns c = λ same. marks-are c.args.marks.now c.args.others.now (sym c.eq.ensures ∙ same)
