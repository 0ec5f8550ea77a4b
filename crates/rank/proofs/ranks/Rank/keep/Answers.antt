use Rattle.std.proofs.Common.{◌≡◌, ◌++◌, length, vec_items, refl, rules}
use Rattle.shelf.specs.Spelling.{spelled}
use Rattle.vf.specs.Fonts.{font_of}
use Rattle.rank.specs.Entries.{entries_of}
use Rattle.rank.proofs.Adds.{rank_pushed}
use Rattle.rank.proofs.Stored.{stored, still_whole, still_laid}
use Rattle.rank.proofs.ranks.Rank.keep.Goals as goal

pub invariant_of-self-2 : goal.invariant_of-self-2
invariant_of-self-2 g c =
    let bs = vec_items c.args.self.now.bytes in
    let fs = vec_items c.args.self.now.fonts in
    let items : vec_items c.extend_from_slice.new.self ≡ bs ++ c.args.file.now = search rules in
    let start : c.len-start.result ≡ length bs = search rules in
    let fonts = c.push_reserved.ensures.items in
    record {
      room = search rules;
      eight = search rules;
      whole = still_whole bs fs _ c.args.file.now _ _ items fonts start refl c.args.self.now.whole;
      ok = rank_pushed g.S.Shelf.means c.args.self.now.below _ (entries_of bs fs) _ (record { name = spelled c.args.name; file = c.args.file.now; font = font_of c.args.vf }) c.requires.room c.requires.fresh refl (stored bs fs _ c.args.file.now _ _ items fonts start refl c.args.self.now.laid) c.args.self.now.ok;
      laid = still_laid bs fs _ c.args.file.now _ _ items fonts start refl c.args.self.now.laid;
    }

pub returns : goal.returns
returns g c =
    let bs = vec_items c.args.self.now.bytes in
    let fs = vec_items c.args.self.now.fonts in
    let items : vec_items c.extend_from_slice.new.self ≡ bs ++ c.args.file.now = search rules in
    let start : c.len-start.result ≡ length bs = search rules in
    record { is = stored bs fs _ c.args.file.now _ _ items c.push_reserved.ensures.items start refl c.args.self.now.laid; below = refl }
