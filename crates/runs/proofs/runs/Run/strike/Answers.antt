use Rattle.std.proofs.Common.{◌≡◌, ◌∙◌, ◌-◌, ap, List, length, Some, None, sym, arith}
use Rattle.std.proofs.lemmas.Result.{err_from_is_err_and}
use Rattle.shelf.specs.declared.refusals.Refusal.TheVariants.{BadOutput}
use Rattle.ledgers.specs.Rules.{strike_refusal}
use Rattle.copies.specs.declared.pairs.Pair.{Pair}
use Rattle.ledgers.specs.Steps.{moved_on}
use Rattle.pairs.specs.Tables.{pairs_of}
use Rattle.writing.specs.Standings.{progress_of}
use Rattle.runs.specs.Views.{view_of, come_of}
use Rattle.runs.proofs.Steps.{strike-refused, strike-done}
use Rattle.runs.proofs.runs.Run.strike.Goals as goal

pub returns-in_err-last-in-Open : goal.returns-in_err-last-in-Open
returns-in_err-last-in-Open g c =
    let p = err_from_is_err_and c.from_residual-in_err-last-in-Open.result c.from_residual-in_err-last-in-Open.ensures.1 in
    let ps = pairs_of c.args.self.now.pairs in
    let k = progress_of c.in-Open.standing ps in
    let no : c.pointer_back.result ≡ None = grind arith in
    let is : c.in_err-last-in-Open.field-0.0 ≡ BadOutput = grind arith in
    let passed : strike_refusal k (length c.args.out.now) ≡ None = grind arith in
    rw (p.1, p.2, is) (strike-refused (view_of g.S.Shelf.means c.args.self.now) k c.args.out.now (ap (λ s. come_of s ps) c.in-Open.is) passed (sym no ∙ c.pointer_back.ensures ps))

pub returns-in_ok-last-in-Open : goal.returns-in_ok-last-in-Open
returns-in_ok-last-in-Open g c =
    let v = view_of g.S.Shelf.means c.args.self.now in
    let ps = pairs_of c.args.self.now.pairs in
    let s = c.in-Open.standing in
    let last = c.in_ok-last-in-Open.last in
    let k = progress_of s ps in
    let found : c.pointer_back.result ≡ Some last = grind arith in
    let passed : strike_refusal k (length c.args.out.now) ≡ None = grind arith in
    strike-done v k c.args.out.now (ap (λ t. come_of t ps) c.in-Open.is) passed last _ (sym found ∙ c.pointer_back.ensures ps)
    (ap (λ (qs : List Pair). moved_on v (Some (record { used = s.last; last = last; count = s.pages - 1; pairs = qs }))) c.forget_from.ensures)
