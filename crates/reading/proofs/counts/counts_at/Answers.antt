use Rattle.std.proofs.Common.{◌≡◌, ◌∙◌, Some, sym, ap, rules}
use Rattle.reading.specs.Reading.{counts_by}
use Rattle.reading.proofs.Chunks.{chunk_counts}
use Rattle.reading.proofs.counts.counts_at.Goals as goal

pub returns : goal.returns
returns c =
    let found : c.args.place ≡ Some c.in_ok-place.place = search rules in
    chunk_counts c.args.bytes.now _ _ _ c.part.ensures c.first_chunk.ensures.cases ∙ ap (counts_by c.args.bytes.now) (sym found)
