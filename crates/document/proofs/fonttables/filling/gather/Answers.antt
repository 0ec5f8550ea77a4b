-- A definition taken, another command passed by, and the end.
use Rattle.std.proofs.Common.{◌≡◌, ◌+◌, ◌<◌, ◌∙◌, [], ◌∷◌, ◌++◌, length, slice_set, take, sym, ap, subst, rules, arith}
use Rattle.std.proofs.lemmas.List.{take_more_set}
use Rattle.document.proofs.Gathered.{Gathered, gathered_start, gathered_all, taken, passed}
use Rattle.document.proofs.fonttables.filling.gather.Goals as goal

pub loop-at-init : goal.loop-at-init
loop-at-init c = (omega arith, gathered_start _ _ c.into_iter-at-iterator.ensures.into_iter_gives)

pub loop-at-preserved-then-is_some : goal.loop-at-preserved-then-is_some
loop-at-preserved-then-is_some c =
    let turned = c.in-Some.ensures.steps in
    let room : c.loop-at.count < length c.loop-at.table = search rules in
    let low : c.in-Some.at < 2147483648 = search rules in
    let place : c.in-Some.at ≡ c.loop-at.at-iterator.at = turned.place in
    let more : take (c.loop-at.count + 1) (slice_set c.loop-at.table c.loop-at.count c.in-Some.at) ≡ take c.loop-at.count c.loop-at.table ++ (c.loop-at.at-iterator.at ∷ []) =
    take_more_set c.loop-at.table c.loop-at.count c.in-Some.at room ∙ ap (λ p. take c.loop-at.count c.loop-at.table ++ (p ∷ [])) place in
    (search rules, subst (Gathered _ _) (sym more) (taken _ _ _ _ c.loop-at.invariant.1 _ turned (omega (arith, low, place))))

pub loop-at-preserved : goal.loop-at-preserved
loop-at-preserved c = (c.loop-at.invariant.0, passed _ _ _ _ c.loop-at.invariant.1 _ c.in-Some.ensures.steps (search rules))

pub returns-clause-whole : goal.returns-clause-whole
returns-clause-whole c = gathered_all _ _ _ c.loop-at.invariant.1 c.requires c.in-None.ensures.steps
