-- A record more, and no room for another.
use Rattle.std.proofs.Common.{length, min, ◌<◌, ◌∙◌, arith}
use Rattle.std.proofs.lemmas.List.{length-set}
use Rattle.fulatzebi.specs.Records.{link_record}
use Rattle.fulatzebi.proofs.Overlays.{put_next, put_all}
use Rattle.fulatzebi.proofs.lists.put_links.Goals as goal

pub loop-k-preserved : goal.loop-k-preserved
loop-k-preserved c =
    let i = c.loop-k.invariant in
    let k = c.loop-k.k in
    let within : k < min (length c.args.from.now) (length c.args.to.now) = omega (arith, c.loop-k-test.true, c.min-k-end.ensures) in (
      put_next link_record _ _ _ k _ _ (omega (arith, within)) (omega (arith, within)) i.0 c.of.ensures,
      omega (arith, within),
      length-set c.loop-k.to k c.of.result ∙ i.2,
    )

pub returns : goal.returns
returns c = c.loop-k.invariant.0 ∙ put_all link_record c.args.from.now c.args.to.now c.loop-k.k (omega (arith, c.loop-k-test.false, c.min-k-end.ensures))
