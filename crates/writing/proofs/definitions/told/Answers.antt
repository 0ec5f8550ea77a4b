use Rattle.std.proofs.Common.{◌<◌, ◌≡◌, length, subst, arith}
use Rattle.shelf.specs.Telling.{facts_in}
use Rattle.copies.specs.Marks.{faces_of}
use Rattle.writing.proofs.ShortNames.{short_name}
use Rattle.writing.proofs.definitions.told.Goals as goal

pub returns-clause-short : goal.returns-clause-short
returns-clause-short g c =
    let m = g.S.Shelf.means c.args.shelf.now in
    let e : faces_of m c.args.face ≡ facts_in c.unwrap_or.result = grind arith in
    subst (λ f. length f.name < 64) e (short_name m c.args.face (g.met.S.Shelf.lawful c.args.shelf.now))
