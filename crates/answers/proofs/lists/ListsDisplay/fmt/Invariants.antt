use Rattle.std.proofs.Common.{take}
use Rattle.std.specs.Fmt.{HasWritten, IsPlainFormatter}
use Rattle.answers.specs.Lists.{link_lines, mark_lines}
use Rattle.answers.proofs.lists.ListsDisplay.fmt.Given as goal

abbrev pub invariant-loop-mark : goal.invariant-loop-mark
invariant-loop-mark g l = IsPlainFormatter l.initial.f → HasWritten g.W.Write.write_str_gives l.initial.f (mark_lines (take l.mark-index l.marks)) l.f

abbrev pub invariant-loop-link : goal.invariant-loop-link
invariant-loop-link g l = IsPlainFormatter l.initial.f → HasWritten g.W.Write.write_str_gives l.initial.f (link_lines (take l.link-index l.chain)) l.f
