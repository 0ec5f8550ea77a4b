use Rattle.std.proofs.Common.{arith, ◌≡◌, ℕ}
use Rattle.runs.specs.Views.{view_of}
use Rattle.copying.specs.Copied.{Course}
use Rattle.copying.proofs.Courses.{grown, refused-on}
use Rattle.copying.proofs.copier.Copier.copy_page.Goals as goal
use Rattle.copying.proofs.copier.Copier.copy_page.Goals.{in-Err-OutputFull, in_default-matches, in_default-matches-2}

pub loop-self-preserved : goal.loop-self-preserved
loop-self-preserved g c = λ m o es course.
    let v = view_of g.S.Shelf.means c.try_page-copied.new.run in
    let goes = c.try_page-copied.ensures.course m o es (c.loop-self.invariant m o es course) in
    let on : Course m o es v c.try_page-copied.new.self.out.items = elim c.match-matches-2.branch [
      | in-Err-OutputFull w ↦ refused-on m o es _ v c.try_page-copied.new.self.out.items c.try_page-copied.result w.in-Err-OutputFull.field-0 goes w.in-Err-OutputFull.is
      | in_default-matches w ↦ absurd (let z : ◌≡◌ {A = ℕ} 0 1 = cc in omega arith)
      | in_default-matches-2 w ↦ absurd (let z : ◌≡◌ {A = ℕ} 0 1 = cc in omega arith)
    ] in
    let longer = c.in_ok-widen_output.ensures.longer in
    grown m o es v c.try_page-copied.new.self.out.items c.widen_output.new.self.out.items on (omega arith) c.in_ok-widen_output.ensures.front
