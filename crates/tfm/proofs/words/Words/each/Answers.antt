-- A test of all in a range.
use Rattle.std.proofs.Common.{ℕ, ◌+◌, ◌*◌, ◌∙◌, get_or, refl, arith, rules}
use Rattle.std.proofs.lemmas.Iterator.{YieldsList-from_range}
use Rattle.std.proofs.lemmas.Iterator.Search.{all_from_yields_List}
use Rattle.tfm.proofs.Every.{every-range}
use Rattle.tfm.proofs.words.Words.each.Goals as goal

pub returns : goal.returns
returns g c = λ test h.
    let p = λ (i : ℕ). test (get_or c.args.self.now.file.now (c.args.self.now.from + 4 * i) 0) in
    all_from_yields_List p _ _ _ c.all.ensures.ran (YieldsList-from_range 0 c.args.self.now.n c.args.self.now.n refl (omega arith)) (λ x b q k. search (rules, h)) ∙ every-range p c.args.self.now.n
