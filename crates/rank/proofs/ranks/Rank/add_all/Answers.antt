use Rattle.std.proofs.Common.{◌≡◌, min, [], get_or, length, vec_items, refl, ap, ◌∙◌, arith}
use Rattle.std.proofs.lemmas.List.{length-map}
use Rattle.rank.specs.declared.filing.Offer.{Offer}
use Rattle.rank.specs.Adding.{given_by, added}
use Rattle.rank.specs.Entries.{entries_of}
use Rattle.rank.proofs.Filed.{none_yet, one_offered, all_filed}
use Rattle.rank.proofs.ranks.Rank.add_all.Goals as goal

pub loop-k-init : goal.loop-k-init
loop-k-init g c = record { filed = none_yet _ _ _ _; below = refl }

no_offer : Offer
no_offer = record { name = record { ref_ptr = (0, 0); now = [] }; file = record { ref_ptr = (0, 0); now = [] } }

pub loop-k-preserved : goal.loop-k-preserved
unfolding no_offer
loop-k-preserved g c =
    let i = c.loop-k.invariant in
    let r = c.loop-k.self in
    let o = get_or c.args.offers.now c.loop-k.k no_offer in
    let e = c.add.ensures.is ∙ ap (λ b. added (g.S.Shelf.means b) (entries_of (vec_items r.bytes) (vec_items r.fonts)) o.name.now o.file.now) i.below in
    record { filed = one_offered _ _ _ _ c.args.offers.now _ _ _ no_offer _ i.filed c.loop-k-test.true c.if-k-answers.false e; below = c.add.ensures.below ∙ i.below }

pub returns-then-k-answers : goal.returns-then-k-answers
returns-then-k-answers g c =
    let i = c.loop-k.invariant.filed in
    let n : min (length c.args.offers.now) (length c.args.answers.now) ≡ c.loop-k.k = omega (arith, i.within, i.room, i.long, length-map c.args.offers.now given_by, c.if-k-answers.true) in
    let f = all_filed _ given_by _ _ c.args.offers.now c.args.answers.now c.loop-k.answers c.loop-k.k i n in
    record { files = f.0; rest = f.1; below = c.loop-k.invariant.below }

pub returns : goal.returns
returns g c =
    let i = c.loop-k.invariant.filed in
    let n : min (length c.args.offers.now) (length c.args.answers.now) ≡ c.loop-k.k = omega (arith, i.within, i.room, i.long, length-map c.args.offers.now given_by, c.loop-k-test.false) in
    let f = all_filed _ given_by _ _ c.args.offers.now c.args.answers.now c.loop-k.answers c.loop-k.k i n in
    record { files = f.0; rest = f.1; below = c.loop-k.invariant.below }
