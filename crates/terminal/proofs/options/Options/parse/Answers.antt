use Rattle.std.proofs.Common.{arith, ◌≡◌, length, ◌∙◌}
use Rattle.std.proofs.lemmas.Result.{err_from_is_err_and}
use Rattle.terminal.specs.Options.{given_of}
use Rattle.terminal.proofs.Parsing.{on, failed, parsed_end, parsed_odd}
use Rattle.terminal.proofs.options.Options.parse.Goals as goal

pub returns-in_err-take : goal.returns-in_err-take
returns-in_err-take c =
    let p = err_from_is_err_and c.from_residual.result c.from_residual.ensures.1 in
    rw (p.1, p.2) (failed c.args.known.now (given_of c.loop-rest.options) c.loop-rest.rest.now c.option-item.result c.value-item.result _ _ c.in-len2-up.len_at_least c.option-item.is c.value-item.is c.as_str.ensures.value c.as_str-in-len2-up.ensures.value {B = Unit {0}} (λ u. given_of c.take.new.self) _ _ _ c.loop-rest.invariant.known c.loop-rest.invariant.same c.in_err-take.ensures.taken)

pub loop-rest-preserved : goal.loop-rest-preserved
loop-rest-preserved c = record {
  known = c.take.ensures.known ∙ c.loop-rest.invariant.known;
  same = c.loop-rest.invariant.same ∙ on _ _ c.loop-rest.rest.now c.option-item.result c.value-item.result _ _ c.in-len2-up.len_at_least c.option-item.is c.value-item.is c.as_str.ensures.value c.as_str-in-len2-up.ensures.value _ (rw c.loop-rest.invariant.known at c.in_ok-take.ensures.taken);
}

pub returns-then-not-is_empty : goal.returns-then-not-is_empty
returns-then-not-is_empty c = let one : length c.loop-rest.rest.now ≡ 1 = grind arith in c.loop-rest.invariant.same ∙ parsed_odd _ _ c.loop-rest.rest.now one

pub returns : goal.returns
returns c = let none : length c.loop-rest.rest.now ≡ 0 = grind arith in c.loop-rest.invariant.same ∙ parsed_end _ _ c.loop-rest.rest.now none
