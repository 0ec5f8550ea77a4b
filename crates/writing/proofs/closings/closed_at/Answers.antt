use Rattle.std.proofs.Common.{length, ap, ◌∙◌}
use Rattle.copies.specs.Files.{fonts_bytes}
use Rattle.copies.specs.Marks.{faces_of}
use Rattle.writing.proofs.Endings.{closed_from}
use Rattle.writing.proofs.closings.closed_at.Goals as goal

pub returns-clause-value : goal.returns-clause-value
returns-clause-value g c o last count =
    let F = faces_of (g.S.Shelf.means c.args.shelf.now) in
    closed_from F o _ _ _ (c.fonts_length.ensures.value ∙ ap (λ ps. length (fonts_bytes F 0 ps)) c.as_slice.ensures.value) c.filled.ensures.value
