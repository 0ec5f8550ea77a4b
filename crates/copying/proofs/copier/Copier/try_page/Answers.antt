use Rattle.std.proofs.Common.{rules, subst, List, ℕ}
use Rattle.runs.specs.Views.{view_of}
use Rattle.ledgers.specs.Sources.{Source}
use Rattle.copying.specs.Copied.{Course, GoesOn}
use Rattle.copying.proofs.Courses.{copies}
use Rattle.copying.proofs.Rooms.{whole}
use Rattle.copying.proofs.copier.Copier.try_page.Goals as goal

pub returns-clause-course : goal.returns-clause-course
returns-clause-course g c = λ m o es course.
    let s : Source = record { document = c.args.document.now.bytes.now; page = c.args.page } in
    let before = view_of g.S.Shelf.means c.args.run.now in
    let after = view_of g.S.Shelf.means c.copy_judged.new.self in
    let led : Course m o es before c.as_mut_slice-3.result.now = subst (λ (xs : List ℕ). Course m o es before xs) (search rules) course in
    let there = copies m o es before after c.as_mut_slice-3.result.now c.copy_judged.new.out led s _ c.copy_judged.result c.copy_judged.ensures.step in
    subst (λ (xs : List ℕ). GoesOn m o es s after xs c.copy_judged.result) (whole c.args.self.now.out.len c.copy_judged.new.out c.args.self.now.out.items (search rules) (search rules)) there
