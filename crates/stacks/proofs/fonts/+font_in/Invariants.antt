-- The ranks that are left.
use Rattle.std.proofs.Common.{length}
use Rattle.stacks.proofs.fonts.+font_in.Given as goal

abbrev pub decreases-font_in : goal.decreases-font_in
decreases-font_in l = length l.ranks.now
