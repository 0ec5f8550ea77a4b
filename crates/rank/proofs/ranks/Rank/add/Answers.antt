use Rattle.std.proofs.Common.{◌≡◌, Some, None, length, vec_items, sym, ap, ◌∙◌, refl, rules, arith}
use Rattle.std.specs.Option.{option_map}
use Rattle.std.proofs.lemmas.Result.{err_from_is_err_and}
use Rattle.shelf.specs.declared.refusals.Refusal.TheVariants.{VfName}
use Rattle.shelf.specs.Spelling.{spelled}
use Rattle.rank.proofs.Adds.{no_room, no_name, not-read, one_more}
use Rattle.rank.proofs.ranks.Rank.add.Goals as goal

pub returns-then-no_room : goal.returns-then-no_room
returns-then-no_room g c =
    let r = c.args.self.now in
    let m = g.S.Shelf.means r.below in
    let e = no_room m (vec_items r.bytes) (vec_items r.fonts) c.args.name.now c.args.file.now r.laid r.whole _ c.len.result c.len-2.result c.count.result.fonts (length c.args.file.now) (search rules) (search rules) c.count.ensures.fonts refl c.no_room.ensures.is c.if-no_room.true in
    record { is = e; below = refl; same = refl }

pub returns-in_err-kept : goal.returns-in_err-kept
returns-in_err-kept g c =
    let p = err_from_is_err_and c.from_residual.result c.from_residual.ensures.1 in
    let none : c.new_name.result ≡ None = grind arith in
    let k : c.in_err-kept.field-0.0 ≡ VfName = grind arith in
    let r = c.args.self.now in
    let m = g.S.Shelf.means r.below in
    let e = no_name m (vec_items r.bytes) (vec_items r.fonts) c.args.name.now c.args.file.now r.laid r.whole _ c.len.result c.len-2.result c.count.result.fonts (length c.args.file.now) (search rules) (search rules) c.count.ensures.fonts refl c.no_room.ensures.is c.if-no_room.false (ap (option_map spelled) (sym none) ∙ c.new_name.ensures.is) in
    rw (p.1, p.2, k) (record { is = e; below = refl; same = refl })

pub returns-in_err-vf : goal.returns-in_err-vf
returns-in_err-vf g c =
    let p = err_from_is_err_and c.from_residual-in_err-vf.result c.from_residual-in_err-vf.ensures.1 in
    let some : c.new_name.result ≡ Some c.in_ok-kept.kept = grind arith in
    let r = c.args.self.now in
    let m = g.S.Shelf.means r.below in
    let e = not-read m (vec_items r.bytes) (vec_items r.fonts) c.args.name.now c.args.file.now r.laid r.whole _ c.len.result c.len-2.result c.count.result.fonts (length c.args.file.now) (search rules) (search rules) c.count.ensures.fonts refl c.no_room.ensures.is c.if-no_room.false _ (ap (option_map spelled) (sym some) ∙ c.new_name.ensures.is) c.in_err-vf.field-0.0 c.in_err-vf.ensures in
    rw (p.1, p.2) (record { is = e; below = refl; same = refl })

pub returns-clause-is : goal.returns-clause-is
returns-clause-is g c =
    let some : c.new_name.result ≡ Some c.in_ok-kept.kept = grind arith in
    let r = c.args.self.now in
    let m = g.S.Shelf.means r.below in
    one_more m (vec_items r.bytes) (vec_items r.fonts) c.args.name.now c.args.file.now r.laid r.whole _ c.len.result c.len-2.result c.count.result.fonts (length c.args.file.now) (search rules) (search rules) c.count.ensures.fonts refl c.no_room.ensures.is c.if-no_room.false _ (ap (option_map spelled) (sym some) ∙ c.new_name.ensures.is) _ _ c.in_ok-vf.ensures (search rules)
