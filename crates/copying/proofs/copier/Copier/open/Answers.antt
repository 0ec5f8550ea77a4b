use Rattle.std.proofs.Common.{rules, arith, subst, List, ℕ, []}
use Rattle.std.specs.Prelude.{IfOk}
use Rattle.runs.specs.Views.{view_of}
use Rattle.copying.specs.Copied.{Started}
use Rattle.copying.proofs.Courses.{opens}
use Rattle.copying.proofs.Rooms.{whole}
use Rattle.copying.proofs.copier.Copier.open.Goals as goal

pub returns : goal.returns
returns g c =
    let m = g.S.Shelf.means c.args.shelf.now in
    subst (λ (xs : List ℕ). IfOk c.open.result (λ run. Started m c.args.document.now [] (view_of g.S.Shelf.means run) xs)) (whole c.args.self.now.out.len c.open.new.out c.args.self.now.out.items (search rules) (search rules))
    (opens g.S.Shelf.means m c.args.document.now c.as_mut_slice.result.now c.open.result c.open.new.out (λ i. omega (arith, c.type_inv.document i)) c.open.ensures)
