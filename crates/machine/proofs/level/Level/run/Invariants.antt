use Rattle.std.proofs.Common.{◌-◌, length}
use Rattle.machine.specs.Acts.{world}
use Rattle.machine.specs.Runs.{run_from}
use Rattle.machine.specs.Views.{view_of}
use Rattle.machine.proofs.Looping.{Going}
use Rattle.machine.proofs.level.Level.run.Given as goal

abbrev pub invariant-loop-at : goal.invariant-loop-at
invariant-loop-at g l =
    let u = world (g.S.Shelf.means l.self.below.now) (g.B.Body.acts l.self.body.now) in
    Going (run_from u l.self.bytes.now l.initial.at (view_of l.initial.m)) (run_from u l.self.bytes.now l.at (view_of l.m)) l.initial.chain l.chain l.initial.marks l.marks l.used

abbrev pub decreases-loop-at : goal.decreases-loop-at
decreases-loop-at g l = length l.self.bytes.now - l.at
