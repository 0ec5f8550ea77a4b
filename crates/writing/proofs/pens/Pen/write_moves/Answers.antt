-- One move behind the other.
use Rattle.std.proofs.Common.{◌≡◌, ◌+◌, ◌∙◌, length, ◌-ℤ◌, to_z, of_z, w64, ap, rules, arith, length-append}
use Rattle.std.proofs.lemmas.Int.{to_z-of_z}
use Rattle.copies.specs.Marks.{mark_h, mark_v, move_bytes}
use Rattle.copies.specs.Writing.{overwritten}
use Rattle.writing.proofs.Overwrites.{over_two, over_room}
use Rattle.writing.proofs.pens.Pen.write_moves.Goals as goal

pub write_move-requires-clause-room : goal.write_move-requires-clause-room
write_move-requires-clause-room c =
    let z : to_z w64 (of_z w64 c.across.result) ≡ mark_h c.args.mark -ℤ c.args.self.h = to_z-of_z w64 c.across.result (search rules) ∙ c.across.ensures.value in
    let y : to_z w64 (of_z w64 c.down.result) ≡ mark_v c.args.mark -ℤ c.args.self.v = to_z-of_z w64 c.down.result (search rules) ∙ c.down.ensures.value in
    let right = move_bytes 142 (mark_h c.args.mark -ℤ c.args.self.h) in
    let down = move_bytes 156 (mark_v c.args.mark -ℤ c.args.self.v) in
    let w = c.write_move-at.ensures.written ∙ ap (λ x. overwritten c.args.self.at (move_bytes 142 x) c.args.out.now) z in
    let a = c.write_move-at.ensures.after ∙ ap (λ x. c.args.self.at + length (move_bytes 142 x)) z in
    let r = over_room c.args.self.at c.write_move-at.result right down c.args.out.now c.write_move-at.new.out w a c.requires in
    omega (arith, r, ap (λ x. length (move_bytes 156 x)) y)

pub returns-clause-after : goal.returns-clause-after
returns-clause-after c =
    let z : to_z w64 (of_z w64 c.across.result) ≡ mark_h c.args.mark -ℤ c.args.self.h = to_z-of_z w64 c.across.result (search rules) ∙ c.across.ensures.value in
    let y : to_z w64 (of_z w64 c.down.result) ≡ mark_v c.args.mark -ℤ c.args.self.v = to_z-of_z w64 c.down.result (search rules) ∙ c.down.ensures.value in
    let right = move_bytes 142 (mark_h c.args.mark -ℤ c.args.self.h) in
    let down = move_bytes 156 (mark_v c.args.mark -ℤ c.args.self.v) in
    omega (arith, length-append right down, c.write_move-at.ensures.after ∙ ap (λ x. c.args.self.at + length (move_bytes 142 x)) z, c.write_move.ensures.after ∙ ap (λ x. c.write_move-at.result + length (move_bytes 156 x)) y)

pub returns-clause-written : goal.returns-clause-written
returns-clause-written c =
    let z : to_z w64 (of_z w64 c.across.result) ≡ mark_h c.args.mark -ℤ c.args.self.h = to_z-of_z w64 c.across.result (search rules) ∙ c.across.ensures.value in
    let y : to_z w64 (of_z w64 c.down.result) ≡ mark_v c.args.mark -ℤ c.args.self.v = to_z-of_z w64 c.down.result (search rules) ∙ c.down.ensures.value in
    let right = move_bytes 142 (mark_h c.args.mark -ℤ c.args.self.h) in
    let down = move_bytes 156 (mark_v c.args.mark -ℤ c.args.self.v) in
    let w = c.write_move-at.ensures.written ∙ ap (λ x. overwritten c.args.self.at (move_bytes 142 x) c.args.out.now) z in
    let a = c.write_move-at.ensures.after ∙ ap (λ x. c.args.self.at + length (move_bytes 142 x)) z in
    over_two c.args.self.at c.write_move-at.result right down c.args.out.now c.write_move-at.new.out c.write_move.new.out w a (c.write_move.ensures.written ∙ ap (λ x. overwritten c.write_move-at.result (move_bytes 156 x) c.write_move-at.new.out) y) c.requires
