use Rattle.std.proofs.Common.{◌∙◌, sym}
use Rattle.writing.specs.Standings.{progress_of}
use Rattle.runs.proofs.Backwards.{pointer_some, no_bop, unfair_pointer}
use Rattle.runs.proofs.pointers.pointer_back.Goals as goal
use Rattle.runs.proofs.pointers.pointer_back.Goals.{else-number-eq-BOP-via-then-number-eq-BOP+else-is_pointer, else-number-eq-BOP-via-else-number-eq-BOP}

pub returns-then-is_pointer : goal.returns-then-is_pointer
returns-then-is_pointer c = λ ps. pointer_some (progress_of c.args.standing ps) c.args.out.now _ _ c.number.ensures.value c.number-pointer.ensures.value c.if-number-eq-BOP.true (c.if-is_pointer.ensures ps)

pub returns-else-number-eq-BOP : goal.returns-else-number-eq-BOP
returns-else-number-eq-BOP c = λ ps. elim c.else-number-eq-BOP.branch [
  | else-number-eq-BOP-via-then-number-eq-BOP+else-is_pointer w ↦ unfair_pointer (progress_of c.args.standing ps) c.args.out.now _ _ c.number.ensures.value c.number-pointer.ensures.value w.if-number-eq-BOP.true (sym w.if-is_pointer.false ∙ w.is_pointer.ensures ps)
  | else-number-eq-BOP-via-else-number-eq-BOP w ↦ no_bop (progress_of c.args.standing ps) c.args.out.now _ _ c.number.ensures.value c.number-pointer.ensures.value w.if-number-eq-BOP.false
]
