-- A glyph and a rule, written in their parts.
use Rattle.std.proofs.Common.{◌+◌, ◌≤◌, ◌∙◌, length, ap, sym, refl, subst}
use Rattle.shelf.specs.declared.marks.Mark.{Mark}
use Rattle.copies.specs.Marks.{faces_of, mark_h, mark_v, mark_bytes}
use Rattle.copies.specs.Pairs.{pair_by}
use Rattle.copies.specs.Writing.{overwritten}
use Rattle.pairs.specs.Tables.{pairs_of}
use Rattle.writing.specs.Pens.{pen_of, defining}
use Rattle.writing.proofs.Shapes.{moves, glyph_written, rule_written}
use Rattle.writing.proofs.pens.Pen.write.Goals as goal

pub returns-in_ok-number-in-Glyph-clause-written : goal.returns-in_ok-number-in-Glyph-clause-written
returns-in_ok-number-in-Glyph-clause-written g c =
    let F = faces_of (g.S.Shelf.means c.args.shelf.now) in
    let pen = pen_of c.args.self (pairs_of c.args.table.now) in
    let m = c.in-Glyph in
    let d = c.in_ok-number-in-Glyph.ensures.done in
    let moved = c.write_moves-at.ensures.written ∙ ap (λ (x : Mark). overwritten pen.at (moves pen (mark_h x) (mark_v x)) c.args.out.now) m.is in
    let behind = c.write_moves-at.ensures.after ∙ ap (λ (x : Mark). pen.at + length (moves pen (mark_h x) (mark_v x))) m.is in
    let room = subst (λ (x : Mark). pen.at + length (mark_bytes F pen x) ≤ length c.args.out.now) m.is c.requires.room in
    glyph_written F pen m.face m.size m.code m.h m.v c.in_ok-number-in-Glyph.number (defining F pen.pairs (pair_by pen.pairs m.face m.size) m.face m.size) d.0 refl
    c.args.out.now c.write_moves-at.new.out c.write_selection-at.new.out c.write_over.new.out c.write_moves-at.result c.write_selection-at.result room moved behind
    c.write_definition.new.out c.in_ok-number-in-Glyph.at d.3 d.1 c.write_selection-at.ensures.written c.write_selection-at.ensures.after c.write_over.ensures
    ∙ ap (λ (x : Mark). overwritten pen.at (mark_bytes F pen x) c.args.out.now) (sym m.is)

pub returns-in-Rule-clause-written : goal.returns-in-Rule-clause-written
returns-in-Rule-clause-written g c =
    let F = faces_of (g.S.Shelf.means c.args.shelf.now) in
    let pen = pen_of c.args.self (pairs_of c.args.table.now) in
    let m = c.in-Rule in
    let moved = c.write_moves-at.ensures.written ∙ ap (λ (x : Mark). overwritten pen.at (moves pen (mark_h x) (mark_v x)) c.args.out.now) m.is in
    let behind = c.write_moves-at.ensures.after ∙ ap (λ (x : Mark). pen.at + length (moves pen (mark_h x) (mark_v x))) m.is in
    let room = subst (λ (x : Mark). pen.at + length (mark_bytes F pen x) ≤ length c.args.out.now) m.is c.requires.room in
    rule_written F pen m.height m.width m.h m.v c.args.out.now c.write_moves-at.new.out c.write_rule.new.out c.write_moves-at.result room moved behind c.write_rule.ensures
    ∙ ap (λ (x : Mark). overwritten pen.at (mark_bytes F pen x) c.args.out.now) (sym m.is)
