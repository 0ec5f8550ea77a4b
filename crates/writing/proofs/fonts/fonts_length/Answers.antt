use Rattle.std.proofs.Common.{◌∙◌, rules}
use Rattle.writing.proofs.FontBytes.{counted_more, counted-all}
use Rattle.writing.proofs.fonts.fonts_length.Goals as goal

pub loop-n-preserved : goal.loop-n-preserved
loop-n-preserved g c = counted_more _ _ _ _ _ _ c.loop-n-test.true (c.as_slice.ensures.value ∙ c.defined-piece.ensures.made) (search rules) c.loop-n.invariant

pub returns-clause-value : goal.returns-clause-value
returns-clause-value g c = counted-all _ _ _ _ c.loop-n-test.false c.loop-n.invariant
