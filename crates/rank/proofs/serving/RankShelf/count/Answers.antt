use Rattle.std.proofs.Common.{vec_items}
use Rattle.rank.specs.Named.{in_all_lem}
use Rattle.rank.proofs.serving.RankShelf.count.Goals as goal

pub returns : goal.returns
returns g c =
    record {
      fonts = in_all_lem (g.S.Shelf.means c.args.self.now.below) (vec_items c.args.self.now.bytes) (vec_items c.args.self.now.fonts) _ c.own.ensures.fonts _ c.count-below.ensures.fonts;
      faces = c.count-below.ensures.faces;
    }
