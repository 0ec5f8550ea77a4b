use Rattle.std.proofs.Common.{◌-◌, length, take, vec_items, ap, ◌∙◌, arith}
use Rattle.rank.specs.Named.{fitting-few}
use Rattle.rank.proofs.ranks.Rank.own.Goals as goal

pub returns : goal.returns
returns g c =
    let m = g.S.Shelf.means c.args.self.now.below in
    let fs = vec_items c.args.self.now.fonts in
    let n = c.from-room.ensures ∙ c.count.ensures.fonts in
    let e = c.part.ensures ∙ ap (λ n. take (4096 - n) c.as_slice.result.now) n ∙ ap (take (4096 - length m.names)) c.as_slice.ensures.value in
    record { fonts = e; few = omega (arith, ap length e, fitting-few (length m.names) fs (g.met.S.Shelf.lawful c.args.self.now.below).few) }
