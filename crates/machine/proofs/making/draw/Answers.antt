use Rattle.std.proofs.Common.{◌≡◌, ℕ, ℤ, None, Some, Option, refl, sym, ap, ◌∙◌, w64, SFits, rules, arith}
use Rattle.std.proofs.lemmas.Int.{to_z-of_z}
use Rattle.std.proofs.lemmas.Result.{err_from_is_err_and}
use Rattle.std.specs.Option.{option_map}
use Rattle.shelf.specs.declared.marks.Mark.TheVariants.{Rule}
use Rattle.shelf.specs.declared.refusals.Cause.TheVariants.{OutOfRange}
use Rattle.shelf.specs.Outcomes.{ends, well}
use Rattle.machine.specs.Views.{marks_in}
use Rattle.machine.specs.Steps.{drawn, sides, side}
use Rattle.machine.proofs.making.draw.Goals as goal

drawn-is : (p : ℤ × ℤ) (s : Option (ℕ × ℕ)) (l : ℤ) → ends (marks_in (option_map (λ x. Rule x.0 x.1 p.0 p.1) s)) (well l) ≡ drawn (Some p) s l
drawn-is p (Some s) l = refl
drawn-is p None l = refl

pub returns-in_err-h : goal.returns-in_err-h
returns-in_err-h c =
    let p = err_from_is_err_and c.from_residual-in_err-h.result c.from_residual-in_err-h.ensures.1 in
    let a : c.args.height ≡ Some c.in_ok-height.height = grind arith in
    let b : c.args.width ≡ Some c.in_ok-width.width = grind arith in
    let n : c.point.result ≡ None = grind arith in
    let k : c.in_err-h.field-0.0 ≡ OutOfRange = grind arith in
    let fh : SFits w64 c.args.at.h = search rules in
    let fv : SFits w64 c.args.at.v = search rules in
    let q = simp to_z-of_z at c.point.ensures in
    rw (p.1, p.2, k, a, b) (ap (λ o. drawn o (sides (side c.in_ok-height.height) (side c.in_ok-width.width)) c.in_ok-width.width) (sym n ∙ q))

pub returns : goal.returns
returns c =
    let f : SFits w64 c.in_ok-width.width = search rules in
    let a : c.args.height ≡ Some c.in_ok-height.height = grind arith in
    let b : c.args.width ≡ Some c.in_ok-width.width = grind arith in
    let s : c.point.result ≡ Some (c.in_ok-h.h, c.in_ok-h.v) = grind arith in
    let w : SFits w64 c.in_ok-height.height = search rules in
    let q : c.sides.result ≡ sides (side c.in_ok-height.height) (side c.in_ok-width.width) = simp to_z-of_z at c.sides.ensures in
    let m : c.map.result ≡ option_map (λ x. Rule x.0 x.1 c.in_ok-h.h c.in_ok-h.v) c.sides.result = search rules in
    let fh : SFits w64 c.args.at.h = search rules in
    let fv : SFits w64 c.args.at.v = search rules in
    let o = simp to_z-of_z at c.point.ensures in
    simp to_z-of_z (rw (a, b, m, q, ← o, s) (drawn-is (c.in_ok-h.h, c.in_ok-h.v) (sides (side c.in_ok-height.height) (side c.in_ok-width.width)) c.in_ok-width.width))
