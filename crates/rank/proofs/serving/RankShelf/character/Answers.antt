use Rattle.std.proofs.Common.{◌≡◌, ◌+◌, ◌-◌, ◌<◌, ◌≤◌, map, length, get_or, take, drop, Some, vec_items, sym, ap, ◌∙◌, subst, rules}
use Rattle.std.proofs.lemmas.Result.{err_from_is_err_and}
use Rattle.std.specs.List.{slice_get}
use Rattle.shelf.specs.Answers.{Answered}
use Rattle.shelf.specs.Served.{by-fault}
use Rattle.vf.specs.Fonts.{font_of}
use Rattle.expansion.specs.Expanding.{expanded}
use Rattle.rank.specs.Entries.{entries_of, entry_of}
use Rattle.rank.specs.Ranks.{fitting}
use Rattle.rank.proofs.Calls.{called-below, called_above, fails-here, nth_map}
use Rattle.rank.specs.Named.{in_all_lem, fits}
use Rattle.rank.proofs.serving.RankShelf.character.Goals as goal

pub returns-then-asked-base : goal.returns-then-asked-base
returns-then-asked-base g c =
    let m = g.S.Shelf.means c.args.self.now.below in
    let es = fitting m (entries_of (vec_items c.args.self.now.bytes) (vec_items c.args.self.now.fonts)) in
    let l : c.args.asked.font < length m.names = search rules in
    subst (λ o. Answered o c.args.chain.now c.character.new.chain c.args.marks.now c.character.new.marks c.character.result) (sym (called-below m es c.args.asked.font c.args.asked.size c.args.asked.code c.args.asked.h c.args.asked.v l)) c.character.ensures

pub returns-in_err-start : goal.returns-in_err-start
returns-in_err-start g c =
    let m = g.S.Shelf.means c.args.self.now.below in
    let bs = vec_items c.args.self.now.bytes in
    let fs = vec_items c.args.self.now.fonts in
    let a = c.args.asked in
    let p = err_from_is_err_and c.from_residual.result c.from_residual.ensures.1 in
    let n = in_all_lem m bs fs c.own-fonts.result.now c.own-fonts.ensures.fonts c.count-base.result.fonts c.count-base.ensures.fonts in
    rw (p.1, p.2) (by-fault _ _ _ c.in_err-start.field-0.0 (fails-here m (fitting m (entries_of bs fs)) a.font a.size a.code a.h a.v _ _ n c.in_err-start.ensures))

pub returns : goal.returns
returns g c =
    let m = g.S.Shelf.means c.args.self.now.below in
    let bs = vec_items c.args.self.now.bytes in
    let fs = vec_items c.args.self.now.fonts in
    let own = c.own-fonts.result.now in
    let f = c.index-fonts-k.result in
    let n = in_all_lem m bs fs own c.own-fonts.ensures.fonts c.count-base.result.fonts c.count-base.ensures.fonts in
    let l : length m.names ≤ c.args.asked.font = search rules in
    let i : c.args.asked.font - c.count-base.result.fonts < length own = search rules in
    let at : f ≡ get_or own (c.args.asked.font - c.count-base.result.fonts) f = search rules in
    let e : slice_get (fitting m (entries_of bs fs)) (c.args.asked.font - c.count-base.result.fonts) ≡ Some (entry_of bs f) =
    ap (λ xs. slice_get xs (c.args.asked.font - c.count-base.result.fonts)) (fits m bs fs ∙ ap (map (entry_of bs)) (sym c.own-fonts.ensures.fonts)) ∙ nth_map (entry_of bs) own (c.args.asked.font - c.count-base.result.fonts) f i at in
    let e₁ = ap (λ b. slice_get (fitting m (entries_of bs fs)) (c.args.asked.font - b)) (sym c.count-base.ensures.fonts) ∙ e in
    let file = c.part-file.ensures ∙ ap (λ b. take f.length (drop f.start b)) c.as_slice.ensures.value in
    let all = c.count-base.result.fonts + length own in
    let s = c.in_ok-start.ensures in
    let o = called_above m (fitting m (entries_of bs fs)) c.args.asked.font c.args.asked.size c.args.asked.code c.args.asked.h c.args.asked.v (entry_of bs f) all _ n s l e₁ in
    subst (λ x. Answered x c.args.chain.now c.expand.new.chain c.args.marks.now c.expand.new.marks c.expand.result) (ap (λ b. expanded m (font_of f.vf) b c.args.asked) file ∙ sym o) c.expand.ensures
