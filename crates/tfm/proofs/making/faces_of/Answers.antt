-- A face more, a refused entry, and all entries.
use Rattle.std.proofs.Common.{rules}
use Rattle.std.proofs.lemmas.Result.{err_from_is_err_and}
use Rattle.tfm.proofs.Loads.{one_more, refused, all_read}
use Rattle.tfm.proofs.making.faces_of.Goals as goal

pub loop-k-preserved : goal.loop-k-preserved
loop-k-preserved c =
    let face = c.in_ok-face.ensures in
    one_more _ _ _ _ _ _ _ c.loop-k-test.true c.loop-k.invariant c.as_slice.ensures.value c.in_ok-face.face _ _ face.is face.fresh c.push_reserved.ensures.items c.push_reserved.ensures.capacity

pub returns-in_err-face : goal.returns-in_err-face
returns-in_err-face c =
    let p = err_from_is_err_and c.from_residual-in_err-face.result c.from_residual-in_err-face.ensures.1 in
    rw (p.1, p.2) (refused _ _ _ _ _ _ _ c.loop-k-test.true c.loop-k.invariant c.as_slice.ensures.value _ c.in_err-face.ensures.is)

pub returns : goal.returns
returns c = all_read _ _ _ _ _ c.loop-k-test.false (search rules) c.loop-k.invariant
