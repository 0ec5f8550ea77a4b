use Rattle.std.proofs.Common.{◌≡◌, [], ◌∷◌, sym, subst, w64, SFits, rules}
use Rattle.std.proofs.lemmas.Int.{to_z-of_z}
use Rattle.std.proofs.lemmas.Result.{err_from_is_err_and}
use Rattle.shelf.specs.Answers.{Answered}
use Rattle.shelf.specs.Outcomes.{ends, well}
use Rattle.shelf.specs.Served.{by-fault, by-blank}
use Rattle.machine.specs.Steps.{ruled}
use Rattle.machine.proofs.making.rule.Goals as goal

pub returns-in_err-drawn : goal.returns-in_err-drawn
returns-in_err-drawn c =
    let p = err_from_is_err_and c.from_residual.result c.from_residual.ensures.1 in
    λ chain. rw (p.1, p.2) (by-fault _ chain _ c.in_err-drawn.field-0.0 (sym c.in_err-drawn.ensures))

pub returns-in-Some : goal.returns-in-Some
returns-in-Some c =
    let d = c.in_ok-drawn.drawn in
    let f : SFits w64 d.width = search rules in
    let e : ends (c.in-Some.mark ∷ []) (well d.width) ≡ ruled c.args.height c.args.width c.args.at = rw c.in-Some.is at c.in_ok-drawn.ensures in
    λ chain. subst (λ o. Answered o chain chain c.args.marks.now c.put_mark.new.marks c.put_mark.result) e (simp to_z-of_z at (c.put_mark.ensures chain))

pub returns-in-None : goal.returns-in-None
returns-in-None c =
    let d = c.in_ok-drawn.drawn in
    let f : SFits w64 d.width = search rules in
    let e : ends [] (well d.width) ≡ ruled c.args.height c.args.width c.args.at = rw c.in-None.is at c.in_ok-drawn.ensures in
    λ chain. simp to_z-of_z (by-blank _ chain _ d.width (sym e))
