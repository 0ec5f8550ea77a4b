use Rattle.std.proofs.Common.{rules, arith, ◌≡◌, Some, None}
use Rattle.std.specs.Slice.Iter.{chunks_rest}
use Rattle.std.proofs.lemmas.Result.{err_from_is_err_and}
use Rattle.script.specs.Bytes.{spelled_pairs}
use Rattle.script.specs.Spelling.{spelled_byte}
use Rattle.script.proofs.Pairs.{pair_taken, pair_refused}
use Rattle.script.proofs.words.bytes_of_pairs.Goals as goal

pub returns-in_err-ok_or : goal.returns-in_err-ok_or
returns-in_err-ok_or c =
    let none : spelled_byte c.in-Some.pair.now ≡ None = grind arith in
    let refused : spelled_pairs c.args.digits.now ≡ None = pair_refused c.args.digits.now (chunks_rest c.loop-pair.pair-iterator) c.in-Some.pair.now (chunks_rest c.next.new.self) c.loop-pair.bytes.items c.loop-pair.invariant.goes_on c.in-Some.ensures.steps.1.0 (rw c.loop-pair.invariant.by_two at c.in-Some.ensures.steps.1.1) c.in-Some.ensures.steps.1.2 none in
    let p = err_from_is_err_and c.from_residual-in_err-ok_or.result c.from_residual-in_err-ok_or.ensures.1 in
    rw (p.1, p.2) (search (rules, refused))

pub loop-pair-preserved : goal.loop-pair-preserved
loop-pair-preserved c =
    let some : spelled_byte c.in-Some.pair.now ≡ Some c.in_ok-ok_or.field-0 = grind arith in
    let taken = pair_taken c.args.digits.now (chunks_rest c.loop-pair.pair-iterator) c.in-Some.pair.now (chunks_rest c.next.new.self) c.loop-pair.bytes.items c.loop-pair.invariant.goes_on c.in-Some.ensures.steps.1.0 (rw c.loop-pair.invariant.by_two at c.in-Some.ensures.steps.1.1) c.in-Some.ensures.steps.1.2 c.in_ok-ok_or.field-0 some in
    record { by_two = search rules; goes_on = search (rules, taken) }
