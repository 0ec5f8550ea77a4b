-- The place at which the walk stopped, or none where it came to the end.
use Rattle.std.proofs.Common.{ap, ◌∙◌, take}
use Rattle.document.proofs.Joins.{placed-here, placed-none}
use Rattle.document.proofs.postambles.Postamble.check_commands.Goals as goal

pub returns-then-place-commands : goal.returns-then-place-commands
returns-then-place-commands c =
    let front = c.new-commands.ensures.front ∙ c.part.ensures ∙ ap (λ k. take k c.args.self.now.bytes.now) c.end.ensures in
    placed-here _ _ _ _ _ _ _ front (c.new-commands.ensures.at ∙ c.place.ensures) c.new-commands.ensures.to c.lawful_to-place.ensures c.if-place-commands.true

pub returns-else-place-commands : goal.returns-else-place-commands
returns-else-place-commands c =
    let front = c.new-commands.ensures.front ∙ c.part.ensures ∙ ap (λ k. take k c.args.self.now.bytes.now) c.end.ensures in
    placed-none _ _ _ _ _ _ _ front (c.new-commands.ensures.at ∙ c.place.ensures) c.new-commands.ensures.to c.lawful_to-place.ensures c.if-place-commands.false
