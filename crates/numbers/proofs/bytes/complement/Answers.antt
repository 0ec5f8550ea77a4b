use Rattle.std.proofs.Common.{inl, inr, arith}
use Rattle.std.proofs.lemmas.Int.{ints}
use Rattle.numbers.proofs.Writes.{twice, outside}
use Rattle.numbers.proofs.bytes.complement.Goals as goal

pub returns-then-z-end : goal.returns-then-z-end
returns-then-z-end c =
    let t = twice c.args.width c.in_ok-end.end c.in_ok-end.ensures.value in
    outside c.args.width c.in_ok-end.end c.in_ok-end.ensures.value c.args.z t.0 t.1 (inl (omega (arith, ints)))

pub returns-else-z-end-2 : goal.returns-else-z-end-2
returns-else-z-end-2 c =
    let t = twice c.args.width c.in_ok-end.end c.in_ok-end.ensures.value in
    outside c.args.width c.in_ok-end.end c.in_ok-end.ensures.value c.args.z t.0 t.1 (inr (omega (arith, ints)))
