use Rattle.std.proofs.Common.{◌≡◌, ◌+◌, Ok, [], get_or, sym, ap, ◌∙◌}
use Rattle.std.specs.Prelude.{map}
use Rattle.std.proofs.lemmas.List.{get_or-map}
use Rattle.reading.specs.Reading.{page_reading}
use Rattle.shelf.specs.Outcomes.{ends, well}
use Rattle.copying.proofs.Pages.{one-reads}
use Rattle.copying.proofs.checks.reads_as.Goals as goal

pub loop-k-preserved : goal.loop-k-preserved
loop-k-preserved g c =
    let m = g.S.Shelf.means c.args.shelf.now in
    let read : page_reading m c.args.file.now c.args.written (c.loop-k.k + 1) ≡ Ok (ends c.in-Some.got.items (well tt)) = rw c.in-Some.is at c.in_ok-got.ensures in
    let same = c.are_same.ensures c.if-are_same.true in
    let there : get_or (map (λ marks. marks.items) c.args.wanted.now) c.loop-k.k [] ≡ c.index-wanted-k.result.items = get_or-map (λ marks. marks.items) c.args.wanted.now c.loop-k.k c.index-wanted-k.result [] c.loop-k-test.true ∙ ap (λ v. v.items) (sym c.index-wanted-k.is) in
    one-reads m c.args.file.now c.args.written (map (λ marks. marks.items) c.args.wanted.now) c.loop-k.k c.in-Some.got.items c.loop-k.invariant read (cc (same, there))
