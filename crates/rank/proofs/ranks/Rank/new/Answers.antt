use Rattle.std.proofs.Common.{vec_items, sym, subst}
use Rattle.rank.specs.Entries.{entries_of}
use Rattle.rank.specs.Ranks.{RankOk}
use Rattle.rank.proofs.Adds.{rank_none}
use Rattle.rank.proofs.ranks.Rank.new.Goals as goal

pub invariant_of-result-clause-ok : goal.invariant_of-result-clause-ok
invariant_of-result-clause-ok g c =
    let m = g.S.Shelf.means c.args.below in
    let fonts = c.in_ok-fonts.ensures.items in
    subst (λ fs. RankOk m (entries_of (vec_items c.in_ok-bytes.bytes) fs)) (sym fonts) (rank_none m (g.met.S.Shelf.lawful c.args.below).few (g.met.S.Shelf.distinct c.args.below))
