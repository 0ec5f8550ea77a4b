use Rattle.std.proofs.Common.{◌≡◌, true, false, ◌∙◌, rules}
use borrow.Author.Tests.{tests}
use Rattle.std.proofs.lemmas.Iterator.{first_from_Range}
use Rattle.shelf.specs.Alone.{is_called}
use Rattle.shelf.specs.Meaning.{told_of}
use Rattle.shelf.proofs.Bearing.{first_bears}
use Rattle.shelf.proofs.alone.FacesAloneShelf.find.Goals as goal

pub returns : goal.returns
returns g c =
    let m = g.S.Shelf.means c.args.self.now.0 in
    let name = c.args.name.now in
    search rules ∙ first_bears name m.faces _ c.find.result c.count.ensures.faces
    (first_from_Range _ _ _ c.find.result (λ k. is_called (told_of m k) name ≡ true) (λ k. is_called (told_of m k) name ≡ false) c.find.ensures.ran (λ x q k. search (rules, tests)) (λ x q k. search (rules, tests)))
