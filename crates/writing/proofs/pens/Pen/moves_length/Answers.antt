-- Both lengths are added.
use Rattle.std.proofs.Common.{◌≡◌, ◌∙◌, length, ◌-ℤ◌, to_z, of_z, w64, ap, rules, arith, length-append}
use Rattle.std.proofs.lemmas.Int.{to_z-of_z}
use Rattle.copies.specs.Marks.{mark_h, mark_v, move_bytes}
use Rattle.writing.proofs.pens.Pen.moves_length.Goals as goal

pub returns-clause-value : goal.returns-clause-value
returns-clause-value c =
    let z : to_z w64 (of_z w64 c.across.result) ≡ mark_h c.args.mark -ℤ c.args.self.h = to_z-of_z w64 c.across.result (search rules) ∙ c.across.ensures.value in
    let y : to_z w64 (of_z w64 c.down.result) ≡ mark_v c.args.mark -ℤ c.args.self.v = to_z-of_z w64 c.down.result (search rules) ∙ c.down.ensures.value in
    let right = move_bytes 142 (mark_h c.args.mark -ℤ c.args.self.h) in
    let down = move_bytes 156 (mark_v c.args.mark -ℤ c.args.self.v) in
    omega (arith, length-append right down, c.move_length.ensures.value ∙ ap (λ x. length (move_bytes 142 x)) z, c.move_length-2.ensures.value ∙ ap (λ x. length (move_bytes 156 x)) y)
