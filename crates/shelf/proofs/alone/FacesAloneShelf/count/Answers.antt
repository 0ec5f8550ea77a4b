use Rattle.std.proofs.Common.{sym, ◌∙◌}
use Rattle.std.proofs.lemmas.List.{length-map}
use Rattle.shelf.specs.Alone.{name_of}
use Rattle.shelf.proofs.alone.FacesAloneShelf.count.Goals as goal

pub returns : goal.returns
returns g c =
    let e = c.count-n.ensures.faces in
    record { fonts = e ∙ sym (length-map (g.S.Shelf.means c.args.self.now.0).faces name_of); faces = e }
