use Rattle.std.proofs.Common.{rules}
use Rattle.ledgers.proofs.Law.{faithful}
use Rattle.runs.specs.Views.{view_of}
use Rattle.runs.proofs.runs.Run.close.Goals as goal

pub returns-in_err-check_output-in-Open-clause-law :
    goal.returns-in_err-check_output-in-Open-clause-law
returns-in_err-check_output-in-Open-clause-law g c = faithful (view_of g.S.Shelf.means c.args.self.now) c.args.out.now _ _ (search rules) (search rules)

pub returns-in_err-length-in-Open-clause-law : goal.returns-in_err-length-in-Open-clause-law
returns-in_err-length-in-Open-clause-law g c = faithful (view_of g.S.Shelf.means c.args.self.now) c.args.out.now _ _ (search rules) (search rules)

pub returns-in-Closed-clause-law : goal.returns-in-Closed-clause-law
returns-in-Closed-clause-law g c = faithful (view_of g.S.Shelf.means c.args.self.now) c.args.out.now _ _ (search rules) (search rules)

pub returns-in_ok-length-in-Open-clause-law : goal.returns-in_ok-length-in-Open-clause-law
returns-in_ok-length-in-Open-clause-law g c = faithful (view_of g.S.Shelf.means c.args.self.now) c.args.out.now _ _ (search rules) (search rules)
