-- The first face that bears a name.
use Rattle.std.proofs.Common.{rules, ◌∙◌}
use Rattle.tfm.proofs.Names.{found-face}
use Rattle.tfm.proofs.serving.TfmShelfShelf.find.Goals as goal

pub returns : goal.returns
returns c =
    let f = c.first_match.ensures.first ∙ found-face c.as_slice.result.now c.args.name.now in
    search rules
