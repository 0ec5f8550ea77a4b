use Rattle.std.proofs.Common.{◌≡◌, ◌+◌, map, length, Some, None, vec_items, sym, ap, ◌∙◌, arith}
use Rattle.shelf.specs.Names.{found_in}
use Rattle.rank.specs.Entries.{entries_of, entry_name}
use Rattle.rank.specs.Ranks.{fitting}
use Rattle.rank.specs.Named.{found_here, found-append, found-font, joined}
use Rattle.rank.proofs.serving.RankShelf.find.Goals as goal

pub returns-in-Some : goal.returns-in-Some
returns-in-Some g c =
    let m = g.S.Shelf.means c.args.self.now.below in
    let own = map entry_name (fitting m (entries_of (vec_items c.args.self.now.bytes) (vec_items c.args.self.now.fonts))) in
    ap (λ o. joined o (length m.names) (found_in own c.args.name.now)) c.in-Some.ensures ∙ sym (found-append m.names own c.args.name.now)

pub returns-in_err-k : goal.returns-in_err-k
returns-in_err-k g c =
    let m = g.S.Shelf.means c.args.self.now.below in
    let none : c.first_match.result ≡ None = grind arith in
    rw c.from_residual.ensures (found_here m (vec_items c.args.self.now.bytes) (vec_items c.args.self.now.fonts) _ c.own.ensures.fonts c.args.name.now None None c.in_default.ensures (sym none ∙ c.first_match.ensures.first ∙ found-font c.own.result.now c.args.name.now))

pub returns : goal.returns
returns g c =
    let m = g.S.Shelf.means c.args.self.now.below in
    let some : c.first_match.result ≡ Some c.in_ok-k.k = grind arith in
    ap (λ n. Some (n + c.in_ok-k.k)) c.count-base.ensures.fonts
    ∙ found_here m (vec_items c.args.self.now.bytes) (vec_items c.args.self.now.fonts) _ c.own.ensures.fonts c.args.name.now None (Some c.in_ok-k.k) c.in_default.ensures (sym some ∙ c.first_match.ensures.first ∙ found-font c.own.result.now c.args.name.now)
