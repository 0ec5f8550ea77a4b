-- A name is new where no face bears it.
use Rattle.std.proofs.Common.{rules, ◌∙◌}
use Rattle.tfm.proofs.Names.{found-face}
use Rattle.tfm.proofs.naming.new_name.Goals as goal

pub returns-clause-is : goal.returns-clause-is
returns-clause-is c =
    let f = c.first_match.ensures.first ∙ found-face c.args.faces.now c.args.bytes.now in
    search rules

pub returns-clause-fresh : goal.returns-clause-fresh
returns-clause-fresh c =
    let f = c.first_match.ensures.first ∙ found-face c.args.faces.now c.args.bytes.now in
    search rules
