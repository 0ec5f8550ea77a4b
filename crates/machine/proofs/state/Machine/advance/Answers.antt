use Rattle.std.proofs.Common.{ap, ◌∙◌, w64, SFits, rules}
use Rattle.std.proofs.lemmas.Int.{to_z-of_z}
use Rattle.std.proofs.lemmas.Result.{err_from_is_err_and}
use Rattle.machine.specs.Steps.{across, advanced}
use Rattle.machine.specs.Views.{view_of}
use Rattle.machine.proofs.Onward.{advances, fails-on}
use Rattle.machine.proofs.state.Machine.advance.Goals as goal

pub returns-in_err-n : goal.returns-in_err-n
returns-in_err-n c =
    let p = err_from_is_err_and c.from_residual.result c.from_residual.ensures.1 in
    λ o chain chain' marks marks' a.
    rw (p.1, p.2) (fails-on (view_of c.args.self.now) o chain chain' marks marks' c.args.made a (advanced (view_of c.args.self.now)) c.in_err-n.field-0.0 c.in_err-n.was)

pub returns-in_err-self : goal.returns-in_err-self
returns-in_err-self c =
    let p = err_from_is_err_and c.from_residual-in_err-self.result c.from_residual-in_err-self.ensures.1 in
    let f : SFits w64 c.in_ok-n.width = search rules in
    λ o chain chain' marks marks' a.
    rw (p.1, p.2) (advances (view_of c.args.self.now) o chain chain' marks marks' c.args.made a c.in_ok-n.n c.in_ok-n.width _ c.in_ok-n.was (c.in_err-self.ensures ∙ ap (across (view_of c.args.self.now).at) (to_z-of_z w64 c.in_ok-n.width f)))

pub returns : goal.returns
returns c =
    let f : SFits w64 c.in_ok-n.width = search rules in
    λ o chain chain' marks marks' a.
    advances (view_of c.args.self.now) o chain chain' marks marks' c.args.made a c.in_ok-n.n c.in_ok-n.width _ c.in_ok-n.was (c.in_ok-self.ensures ∙ ap (across (view_of c.args.self.now).at) (to_z-of_z w64 c.in_ok-n.width f))
