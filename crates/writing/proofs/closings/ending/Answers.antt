use Rattle.std.proofs.Common.{append_assoc}
use Rattle.copies.specs.Files.{end_bytes}
use Rattle.writing.proofs.Endings.{filling}
use Rattle.writing.proofs.closings.ending.Goals as goal

pub returns : goal.returns
unfolding end_bytes
returns c =
    let f = filling c.filled.result c.filled.ensures.most in
    rw (c.all.ensures.made, c.byte-2.ensures.made, c.number.ensures.made, c.byte.ensures.made, c.new.ensures, f, c.filled.ensures.value) (simp append_assoc)
