-- One definition more, and the end of the list.
use Rattle.std.proofs.Common.{rules, ◌-◌, ◌+◌, ◌∙◌, ◌≡◌, ◌++◌, ◌∷◌, [], map, sym, ap, arith}
use Rattle.std.proofs.lemmas.List.{map-append}
use Rattle.inspect.specs.Locals.{listed}
use Rattle.inspect.proofs.Listing.{one_more, no_more, full}
use Rattle.inspect.proofs.locals.locals_from.Goals as goal
use Rattle.inspect.proofs.locals.locals_from.Goals.{else-loop-test, then-loop-test+in_default}

pub loop-init : goal.loop-init
loop-init c = search rules

pub loop-preserved : goal.loop-preserved
loop-preserved c =
    c.loop.invariant
    ∙ one_more _ _ _ _ (c.in-Some.name.now, c.in-Some.next) c.loop-test.true (search rules)
    ∙ ap (λ names. listed c.args.file.now (16 - (c.loop.counter + 1)) names c.in-Some.next) (sym (ap (map (λ n. n.now)) (c.in_ok-push.ensures.items) ∙ map-append _ c.loop.names.items _))

pub returns : goal.returns
returns c = elim c.loop-test.branch [
  | else-loop-test w ↦ sym (c.loop.invariant ∙ full _ _ _ _ w.loop-test.false)
  | then-loop-test+in_default w ↦ sym (c.loop.invariant ∙ no_more _ _ _ _ (search rules))
]
