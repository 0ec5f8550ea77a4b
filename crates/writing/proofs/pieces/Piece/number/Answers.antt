use Rattle.std.proofs.Common.{[], ◌∷◌, ◌++◌, take, ap, ◌∙◌, rules}
use Rattle.writing.specs.Pieces.{made}
use Rattle.writing.proofs.Scratch.{front_written}
use Rattle.writing.proofs.pieces.Piece.number.Goals as goal

pub returns-clause-made : goal.returns-clause-made
returns-clause-made c =
    c.all.ensures.made
    ∙ ap (λ l. made c.args.self ++ l) (ap (take c.args.width) c.write_unsigned.ensures.bytes ∙ front_written (0 ∷ 0 ∷ 0 ∷ 0 ∷ []) c.args.width c.args.n (search rules) c.requires.width c.requires.fits)
