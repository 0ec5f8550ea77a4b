use Rattle.std.proofs.Common.{◌∙◌}
use Rattle.writing.proofs.FontBytes.{laid_room, laid_more, laid-all}
use Rattle.writing.proofs.fonts.write_fonts.Goals as goal

pub write_over-requires : goal.write_over-requires
write_over-requires g c = laid_room _ _ _ _ _ _ _ _ _ c.loop-n-test.true (c.as_slice-bytes.ensures.value ∙ c.defined-piece.ensures.made) c.requires.room c.loop-n.invariant

pub loop-n-preserved : goal.loop-n-preserved
loop-n-preserved g c =
    laid_more _ _ _ _ _ _ _ _ _ _ c.loop-n-test.true (c.as_slice-bytes.ensures.value ∙ c.defined-piece.ensures.made) c.write_over.ensures c.requires.room c.loop-n.invariant

pub returns-clause-after : goal.returns-clause-after
returns-clause-after g c = (laid-all _ _ _ _ _ _ _ c.loop-n-test.false c.loop-n.invariant).0

pub returns-clause-written : goal.returns-clause-written
returns-clause-written g c = (laid-all _ _ _ _ _ _ _ c.loop-n-test.false c.loop-n.invariant).1
