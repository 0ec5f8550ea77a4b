use Rattle.std.proofs.Common.{arith, ap, sym, ◌∙◌}
use borrow.Author.Tests.{ltb-true}
use Rattle.copying.specs.Jobs.{is_check}
use Rattle.copying.proofs.Words.{behind, no-words, nowhere}
use Rattle.copying.proofs.jobs.without_check.Goals as goal
use Rattle.copying.proofs.jobs.without_check.Goals.{in_default-via-then-words-lt1, in_default-via-in-len1-up-2+else-is_check-2}

pub returns-in-len1-up-2 : goal.returns-in-len1-up-2
returns-in-len1-up-2 c =
    behind c.args.words.now c.first-item.result c.last-item.result (omega arith) (ap is_check (sym c.first-item.is) ∙ sym c.is_check.ensures ∙ c.if-is_check.false) (ap is_check (sym c.last-item.is) ∙ sym c.is_check-2.ensures ∙ c.if-is_check-2.true)

pub returns-in_default : goal.returns-in_default
returns-in_default c =
    elim c.in_default.branch [
      | in_default-via-then-words-lt1 w ↦ no-words c.args.words.now (omega (arith, ltb-true))
      | in_default-via-in-len1-up-2+else-is_check-2 w ↦ nowhere c.args.words.now w.first-item.result w.last-item.result (omega arith) (ap is_check (sym w.first-item.is) ∙ sym w.is_check.ensures ∙ w.if-is_check.false) (ap is_check (sym w.last-item.is) ∙ sym w.is_check-2.ensures ∙ w.if-is_check-2.false)
    ]
