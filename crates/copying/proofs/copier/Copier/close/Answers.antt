use Rattle.std.proofs.Common.{rules, take, subst, List, ℕ}
use Rattle.std.specs.Prelude.{IfOk}
use Rattle.ledgers.specs.Histories.{ClosedFile}
use Rattle.runs.specs.Views.{view_of}
use Rattle.copying.specs.Copied.{Course}
use Rattle.copying.proofs.Courses.{closes}
use Rattle.copying.proofs.Rooms.{whole}
use Rattle.copying.proofs.copier.Copier.close.Goals as goal

pub returns : goal.returns
returns g c = λ m o es law course.
    let v = view_of g.S.Shelf.means c.args.run.now in
    let led : Course m o es v c.as_mut_slice.result.now = subst (λ (xs : List ℕ). Course m o es v xs) (search rules) course in
    subst (λ (xs : List ℕ). IfOk c.close.result (λ length. ClosedFile m o es (take length xs))) (whole c.args.self.now.out.len c.close.new.out c.args.self.now.out.items (search rules) (search rules))
    (closes m o es v v c.as_mut_slice.result.now c.close.new.out led law c.close.result c.close.ensures.law)
