use Rattle.std.proofs.Common.{◌≡◌, map, vec_items}
use Rattle.rank.specs.Adding.{given_by}
use Rattle.rank.specs.Entries.{entries_of}
use Rattle.rank.proofs.Filed.{Filed}
use Rattle.rank.proofs.ranks.Rank.add_all.Given as goal

abbrev pub invariant-loop-k : goal.invariant-loop-k
invariant-loop-k g l =
    record {
      filed : Filed (g.S.Shelf.means l.initial.self.below) (entries_of (vec_items l.initial.self.bytes) (vec_items l.initial.self.fonts)) (entries_of (vec_items l.self.bytes) (vec_items l.self.fonts)) (map given_by l.offers) l.initial.answers l.answers l.k;
      below : l.self.below ≡ l.initial.self.below;
    }
