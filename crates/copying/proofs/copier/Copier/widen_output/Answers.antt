use Rattle.std.proofs.Common.{ap, length, ◌∙◌}
use Rattle.std.proofs.lemmas.List.Sums.{prefix_len-le-length}
use Rattle.copying.proofs.Rooms.{length-cleared}
use Rattle.copying.proofs.copier.Copier.widen_output.Goals as goal

pub returns-clause-marks : goal.returns-clause-marks
returns-clause-marks c = ap length c.clear_marks.ensures.marks ∙ length-cleared _ c.args.self.now.lists.marks.items (prefix_len-le-length _ c.args.self.now.lists.marks.items)
