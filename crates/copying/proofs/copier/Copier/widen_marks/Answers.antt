use Rattle.std.proofs.Common.{arith, ap, length}
use Rattle.copying.proofs.Rooms.{length-no_marks}
use Rattle.copying.proofs.copier.Copier.widen_marks.Goals as goal

pub returns-clause-marks : goal.returns-clause-marks
returns-clause-marks c = λ small. omega (arith, ap length c.in_ok-self.ensures.marks, length-no_marks c.max-wider.result)
