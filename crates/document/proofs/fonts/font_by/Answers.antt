-- From the postamble's fields on; a place beyond all bytes is as good as the last there is.
use Rattle.std.proofs.Common.{◌≡◌, ◌+◌, ◌∙◌, min, take, rules}
use Rattle.document.proofs.Found.{font-most}
use Rattle.document.proofs.fonts.font_by.Goals as goal

pub returns : goal.returns
returns c =
    let front : c.entries_of.result.front.now ≡ take c.args.document.end c.args.bytes.now = search rules in
    let from : c.entries_of.result.at ≡ min (c.args.document.post + 29) 18446744073709551615 = search rules in
    rw (front, from) at c.font_from.ensures ∙ font-most c.args.bytes.now _ _ _ _ (search rules)
