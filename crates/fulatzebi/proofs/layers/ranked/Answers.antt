-- A file more, a file that is refused, and all files.
use Rattle.std.proofs.Common.{[], get_or, Ok, sym, ap, ◌∙◌, inr}
use Rattle.rank.specs.Held.{files_of}
use Rattle.rank.specs.Ranks.{rank_of}
use Rattle.fulatzebi.specs.declared.records.FontRecord.{FontRecord}
use Rattle.fulatzebi.specs.Layers.{filled, offered, ranked_by}
use Rattle.fulatzebi.proofs.Fills.{none_yet, one_more, stopped, all_there}
use Rattle.fulatzebi.proofs.layers.ranked.Goals as goal

no_font : FontRecord
no_font = record { rank = 0; name_place = 0; name_length = 0; file_place = 0; file_length = 0 }

pub loop-index-init : goal.loop-index-init
loop-index-init g c = record { filled = none_yet _ _ _ _ _ _ c.in_ok-made.ensures.bytes c.in_ok-made.ensures.files; below = c.in_ok-made.ensures.below }

pub loop-index-preserved : goal.loop-index-preserved
unfolding no_font
loop-index-preserved g c =
    let i = c.loop-index.invariant in
    let fs = c.as_slice-font-items.result.now in
    let e =
    ap (λ r. (files_of c.add.new.made, r)) (sym c.in_default.is)
    ∙ c.add.ensures.is
    ∙ ap (λ b. offered (g.S.Shelf.means b) (files_of c.loop-index.made) c.args.bundle.bytes.now (get_or fs c.loop-index.index no_font)) i.below in
    record { filled = one_more _ _ _ fs _ _ _ _ c.loop-index-test.true e i.filled; below = c.add.ensures.below ∙ i.below }

pub returns-in-Err-clause-refused : goal.returns-in-Err-clause-refused
unfolding no_font
returns-in-Err-clause-refused g c =
    let i = c.loop-index.invariant in
    let fs = c.as_slice-font-items.result.now in
    let e =
    ap (λ r. (files_of c.add.new.made, r)) (sym c.in-Err.is)
    ∙ c.add.ensures.is
    ∙ ap (λ b. offered (g.S.Shelf.means b) (files_of c.loop-index.made) c.args.bundle.bytes.now (get_or fs c.loop-index.index no_font)) i.below in
    let m = g.S.Shelf.means c.args.below in
    inr
    (ap (ranked_by m)
    (stopped m _ _ fs _ _ _ _ _ c.loop-index-test.true e i.filled
    ∙ ap (filled m c.args.rank c.args.bundle.bytes.now 0 []) (c.as_slice-font-items.ensures.value ∙ c.in_ok-fonts.ensures)))

pub returns-clause-made : goal.returns-clause-made
returns-clause-made g c =
    let i = c.loop-index.invariant in
    let m = g.S.Shelf.means c.args.below in
    ap (λ b. Ok (rank_of (g.S.Shelf.means b) (files_of c.loop-index.made))) i.below
    ∙ ap (ranked_by m)
    (all_there m _ _ _ _ _ c.loop-index-test.false i.filled
    ∙ ap (filled m c.args.rank c.args.bundle.bytes.now 0 []) (c.as_slice-font-items.ensures.value ∙ c.in_ok-fonts.ensures))
