use Rattle.std.proofs.Common.{◌≡◌, Some, None, sym, ◌∙◌, w32, w64, SFits, rules, arith}
use Rattle.std.proofs.lemmas.Int.{to_z-of_z}
use Rattle.std.proofs.lemmas.Result.{err_from_is_err_and}
use Rattle.shelf.specs.declared.refusals.Cause.TheVariants.{NoCode, BadSize}
use Rattle.expansion.proofs.Packets.{no-packet, no_width, run-well, run-refused}
use Rattle.expansion.proofs.expanding.expand.Goals as goal

pub returns-in_err-packet : goal.returns-in_err-packet
returns-in_err-packet g c =
    let p = err_from_is_err_and c.from_residual.result c.from_residual.ensures.1 in
    let none : c.packet.result ≡ None = grind arith in
    let k : c.in_err-packet.field-0.0 ≡ NoCode = grind arith in
    rw (p.1, p.2, k) (no-packet _ _ _ c.args.asked _ _ (sym none ∙ c.packet.ensures))

pub returns-in_err-width : goal.returns-in_err-width
returns-in_err-width g c =
    let p = err_from_is_err_and c.from_residual-in_err-width.result c.from_residual-in_err-width.ensures.1 in
    let there : c.packet.result ≡ Some c.in_ok-packet.packet = grind arith in
    let none : c.scale.result ≡ None = grind arith in
    let k : c.in_err-width.field-0.0 ≡ BadSize = grind arith in
    rw (p.1, p.2, k) (no_width _ _ _ c.args.asked _ (sym there ∙ c.packet.ensures) _ _ (sym none ∙ c.scale.ensures))

pub returns-in_err-n : goal.returns-in_err-n
returns-in_err-n g c =
    let p = err_from_is_err_and c.from_residual-in_err-n.result c.from_residual-in_err-n.ensures.1 in
    let there : c.packet.result ≡ Some c.in_ok-packet.packet = grind arith in
    let wide : c.scale.result ≡ Some c.in_ok-width.width = grind arith in
    rw (p.1, p.2) (run-refused _ _ _ c.args.asked _ (sym there ∙ c.packet.ensures) _ (sym wide ∙ c.scale.ensures) _ _ _ _ _ c.in_err-n.ensures)

pub returns : goal.returns
returns g c =
    let there : c.packet.result ≡ Some c.in_ok-packet.packet = grind arith in
    let wide : c.scale.result ≡ Some c.in_ok-width.width = grind arith in
    let fits : SFits w64 c.from.result = search rules in
    let narrow : SFits w32 c.in_ok-width.width = search rules in
    run-well _ _ _ c.args.asked _ (sym there ∙ c.packet.ensures) _ (sym wide ∙ c.scale.ensures) _ _ _ _ _ _ (to_z-of_z w64 c.from.result fits ∙ c.from.ensures ∙ to_z-of_z w32 c.in_ok-width.width narrow) c.in_ok-n.ensures
