use Rattle.std.proofs.Common.{◌≡◌, None, Some, sym, ap, ◌∙◌, arith}
use Rattle.std.proofs.lemmas.Int.{to_z-of_z}
use Rattle.std.proofs.lemmas.Result.{err_from_is_err_and}
use Rattle.shelf.specs.declared.refusals.Cause.TheVariants.{NoFont, NoCode}
use Rattle.shelf.specs.Served.{by-fault}
use Rattle.machine.specs.Steps.{typeset, coded}
use Rattle.machine.proofs.making.typeset.Goals as goal

pub returns-in_err-chosen : goal.returns-in_err-chosen
returns-in_err-chosen g c =
    let p = err_from_is_err_and c.from_residual.result c.from_residual.ensures.1 in
    let none : c.args.font ≡ None = grind arith in
    let k : c.in_err-chosen.field-0.0 ≡ NoFont = grind arith in
    rw (p.1, p.2, k) (by-fault _ _ _ NoFont (ap (λ f. typeset (g.S.Shelf.means c.args.below.now) f c.args.code c.args.at) none))

pub returns-in_err-code : goal.returns-in_err-code
returns-in_err-code g c =
    let p = err_from_is_err_and c.from_residual-in_err-code.result c.from_residual-in_err-code.ensures.1 in
    let some : c.args.font ≡ Some c.in_ok-chosen.chosen = grind arith in
    let none : c.byte_of.result ≡ None = grind arith in
    let k : c.in_err-code.field-0.0 ≡ NoCode = grind arith in
    let m = g.S.Shelf.means c.args.below.now in
    let f = c.ranges.code in
    rw (p.1, p.2, k) (by-fault _ _ _ NoCode (ap (λ x. typeset m x c.args.code c.args.at) some ∙ ap (coded m c.in_ok-chosen.chosen c.args.at) (sym (simp to_z-of_z at c.byte_of.ensures) ∙ none)))
