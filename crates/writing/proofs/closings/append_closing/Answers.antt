use Rattle.std.proofs.Common.{◌≡◌, ◌+◌, ◌≤◌, length, ap, ◌∙◌, arith}
use Rattle.copies.specs.Files.{fonts_bytes, closed_length}
use Rattle.copies.specs.Marks.{faces_of}
use Rattle.copies.specs.Writing.{overwritten}
use Rattle.pairs.specs.Tables.{pairs_of}
use Rattle.writing.specs.Standings.{opening_of, progress_of, room}
use Rattle.writing.proofs.Endings.{end_room, laid, closes}
use Rattle.writing.proofs.closings.append_closing.Goals as goal

pub write_over-requires-2 : goal.write_over-requires-2
write_over-requires-2 g c =
    let F = faces_of (g.S.Shelf.means c.args.shelf.now) in
    let o = opening_of c.args.opening in
    let p = progress_of c.args.standing (pairs_of c.args.table.now) in
    let n : c.closed_length-length.result ≡ closed_length F o p = c.closed_length-length.ensures o in
    let fits : closed_length F o p ≤ length c.args.out.now = omega (arith, n) in
    let end = c.write_fonts-end.ensures.after ∙ ap (λ ps. c.args.standing.used + 29 + length (fonts_bytes F 0 ps)) c.as_slice-2.ensures.value in
    let r = end_room F o p c.write_fonts-end.result c.as_slice-3.result.now end (c.as_slice-3.ensures.value ∙ c.ending-last.ensures) c.args.out.now fits in
    omega (arith, r)

pub returns : goal.returns
returns g c =
    let F = faces_of (g.S.Shelf.means c.args.shelf.now) in
    let o = opening_of c.args.opening in
    let p = progress_of c.args.standing (pairs_of c.args.table.now) in
    let n : c.closed_length-length.result ≡ closed_length F o p = c.closed_length-length.ensures o in
    let fits : closed_length F o p ≤ room c.args.out.now = omega (arith, n) in
    closes F o p c.args.out.now c.write_over-2.new.out c.closed_length-length.result fits n
    (laid F o p c.args.out.now c.write_over.new.out c.write_fonts-end.new.out c.write_over-2.new.out c.as_slice.result.now c.as_slice-3.result.now c.write_fonts-end.result (omega (arith, fits))
    (c.as_slice.ensures.value ∙ c.postamble-post.ensures.made (pairs_of c.args.table.now))
    c.write_over.ensures
    (c.write_fonts-end.ensures.written ∙ ap (λ ps. overwritten (c.args.standing.used + 29) (fonts_bytes F 0 ps) c.write_over.new.out) c.as_slice-2.ensures.value)
    (c.write_fonts-end.ensures.after ∙ ap (λ ps. c.args.standing.used + 29 + length (fonts_bytes F 0 ps)) c.as_slice-2.ensures.value)
    (c.as_slice-3.ensures.value ∙ c.ending-last.ensures)
    c.write_over-2.ensures)
