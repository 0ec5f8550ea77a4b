-- A step of the fold goes back a page.
use Rattle.std.proofs.Common.{refl, arith, rules}
use Rattle.std.specs.List.{range_with_len}
use Rattle.std.proofs.iter.Yields.{nat_range_steps}
use Rattle.std.proofs.lemmas.Fn.{fold_over}
use Rattle.std.proofs.lemmas.Iterator.{YieldsList-from_range}
use Rattle.document.specs.Bytes.{four}
use Rattle.document.proofs.Chains.{Back, back_start, back_on, back_whole}
use Rattle.document.proofs.pages.page_before.Goals as goal

pub returns : goal.returns
unfolding four
returns c =
    let bs = c.args.bytes.now in
    let k = c.args.k in
    back_whole bs c.args.last k c.fold.result
    (fold_over nat_range_steps (λ x. x) _ (Back bs c.args.last) _ (λ ys a x b f' j called. (back_on bs c.args.last ys a x b j (search rules), search rules)) _ (range_with_len 0 k) c.args.last c.fold.result (YieldsList-from_range 0 k k refl (omega arith)).runs (back_start bs c.args.last) c.fold.ensures.ran)
