use Rattle.std.proofs.Common.{length, ap, ◌∙◌, arith}
use Rattle.copies.specs.Marks.{Pen, faces_of, marks_bytes, pen_after_all}
use Rattle.copies.specs.Writing.{overwritten}
use Rattle.pairs.specs.Tables.{pairs_of}
use Rattle.writing.specs.Pens.{pen_of}
use Rattle.writing.specs.Standings.{progress_of}
use Rattle.writing.proofs.PageBytes.{front_room, laid_page}
use Rattle.writing.proofs.pages.write_page.Goals as goal

pub write_over-requires : goal.write_over-requires
write_over-requires g c =
    let F = faces_of (g.S.Shelf.means c.args.shelf.now) in
    let r = front_room F (progress_of c.args.standing (pairs_of c.args.table.now)) c.args.counts.now c.args.marks.now c.args.out.now c.requires in
    omega (arith, r, ap length c.as_slice.ensures.value)

pub returns-clause-written : goal.returns-clause-written
returns-clause-written g c =
    let F = faces_of (g.S.Shelf.means c.args.shelf.now) in
    let ps = pairs_of c.args.table.now in
    let e = ap (λ p. pen_of p ps) c.of_page.ensures.pen in
    let there = c.in_ok-pen.ensures.done ∙ ap (λ q. pen_after_all F q c.args.marks.now) e in
    laid_page F (progress_of c.args.standing ps) c.args.counts.now c.args.marks.now c.args.out.now c.write_over.new.out c.write_marks.new.out c.write_over-2.new.out c.as_slice.result.now c.in_ok-pen.pen.at c.requires
    (c.as_slice.ensures.value ∙ c.page_front-front.ensures.made)
    (ap length c.as_slice.ensures.value ∙ c.page_front-front.ensures.length)
    (ap (λ (q : Pen). q.at) there)
    c.write_over.ensures
    (c.in_ok-pen.ensures.written ∙ ap (λ (q : Pen). overwritten q.at (marks_bytes F q c.args.marks.now) c.write_over.new.out) e)
    c.write_over-2.ensures
