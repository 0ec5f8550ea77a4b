use Rattle.std.proofs.Common.{ap, w64, SFits, rules}
use Rattle.std.proofs.lemmas.Int.{to_z-of_z}
use Rattle.std.proofs.lemmas.Result.{err_from_is_err_and}
use Rattle.commands.specs.Shapes.{plain}
use Rattle.machine.specs.Views.{view_of}
use Rattle.machine.proofs.Onward.{by-set, by-put, by-set_rule, by-put_rule, is-silent, silent-step}
use Rattle.machine.proofs.level.Level.step.Goals as goal

pub returns-in-Set : goal.returns-in-Set
returns-in-Set g c =
    let f : SFits w64 c.in-Set.code = search rules in
    by-set _ _ _ _ _ _ _ _ _ (ap plain c.in-Set.is) (c.advance.ensures _ _ _ _ _ (simp to_z-of_z at c.typeset-made.ensures))

pub returns-in-Put : goal.returns-in-Put
returns-in-Put g c =
    let f : SFits w64 c.in-Put.code = search rules in
    by-put _ _ _ _ _ _ _ _ _ (ap plain c.in-Put.is) (c.keep.ensures (view_of c.args.m.now) _ _ _ _ _ (simp to_z-of_z at c.typeset.ensures))

pub returns-in-SetRule : goal.returns-in-SetRule
returns-in-SetRule g c =
    let f : SFits w64 c.in-SetRule.height = search rules in
    let h : SFits w64 c.in-SetRule.width = search rules in
    by-set_rule _ _ _ _ _ _ _ _ _ _ _ _ (ap plain c.in-SetRule.is) (simp to_z-of_z at c.measure.ensures) (simp to_z-of_z at c.measure-in-SetRule.ensures) (c.advance-in-SetRule.ensures _ _ _ _ _ (c.rule-made.ensures _))

pub returns-in-PutRule : goal.returns-in-PutRule
returns-in-PutRule g c =
    let f : SFits w64 c.in-PutRule.height = search rules in
    let h : SFits w64 c.in-PutRule.width = search rules in
    by-put_rule _ _ _ _ _ _ _ _ _ _ _ _ (ap plain c.in-PutRule.is) (simp to_z-of_z at c.measure-in-PutRule.ensures) (simp to_z-of_z at c.measure-in-PutRule-2.ensures) (c.keep-in-PutRule.ensures (view_of c.args.m.now) _ _ _ _ _ (c.rule.ensures _))

pub returns-in_ok-obey-in_default : goal.returns-in_ok-obey-in_default
returns-in_ok-obey-in_default g c =
    let r = c.in_default in
    silent-step _ _ _ _ _ _ (is-silent _ c.args.command _ r.not-Set r.not-Put r.not-SetRule r.not-PutRule) c.in_ok-obey-in_default.ensures

pub returns-in_err-obey-in_default : goal.returns-in_err-obey-in_default
returns-in_err-obey-in_default g c =
    let r = c.in_default in
    let p = err_from_is_err_and c.from_residual.result c.from_residual.ensures.1 in
    rw (p.1, p.2) (silent-step _ _ _ _ _ _ (is-silent _ c.args.command _ r.not-Set r.not-Put r.not-SetRule r.not-PutRule) c.in_err-obey-in_default.ensures)
