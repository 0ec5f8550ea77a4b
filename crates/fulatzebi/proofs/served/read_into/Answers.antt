-- What the caller is told of a page that was read, and of one that was refused.
use Rattle.std.proofs.Common.{map, length, sym, ap, ◌∙◌}
use Rattle.machine.specs.Views.{counted}
use Rattle.shelf.specs.Answers.{overlay}
use Rattle.fulatzebi.specs.Answers.{refused}
use Rattle.fulatzebi.specs.Records.{link_record}
use Rattle.fulatzebi.proofs.Linkless.{real_reading, reading_linkless}
use Rattle.fulatzebi.proofs.Telling.{passed, read_told, told_by}
use Rattle.fulatzebi.proofs.served.read_into.Goals as goal

pub returns-in-Ok : goal.returns-in-Ok
returns-in-Ok g c =
    let m = g.S.Shelf.means c.args.shelf.now in
    let law = g.met.S.Shelf.lawful c.args.shelf.now in
    let bs = c.args.document.now in
    let n = c.args.page in
    read_told _ (reading_linkless m bs n) (real_reading m law bs n) c.args.links.now c.args.marks.now c.read-answer.result _ _ _ _ c.made-written.result.now _ _ _
    c.requires.chain
    c.requires.marks
    c.read-answer.ensures
    c.made-written.ensures
    c.put_marks.ensures
    (ap (λ a. passed (counted a) c.read-answer.new.chain c.args.links.now) (sym c.in-Ok.is))
    (c.accepted.ensures ∙ ap (λ a. told_by a (length c.made-written.result.now)) (sym c.in-Ok.is))

pub returns-in-Err : goal.returns-in-Err
returns-in-Err g c =
    let m = g.S.Shelf.means c.args.shelf.now in
    let law = g.met.S.Shelf.lawful c.args.shelf.now in
    let bs = c.args.document.now in
    let n = c.args.page in
    read_told _ (reading_linkless m bs n) (real_reading m law bs n) c.args.links.now c.args.marks.now c.read-answer.result _ _ _ _ c.made-written.result.now _ _ _
    c.requires.chain
    c.requires.marks
    c.read-answer.ensures
    c.made-written.ensures
    c.put_marks.ensures
    (c.put_links.ensures ∙ ap (λ xs. overlay (map link_record xs) c.args.links.now) c.written_links.ensures ∙ ap (λ a. passed (counted a) c.read-answer.new.chain c.args.links.now) (sym c.in-Err.is))
    (c.refused.ensures ∙ ap (λ x. refused x (length c.made-written.result.now)) c.refused-stop.ensures ∙ ap (λ a. told_by a (length c.made-written.result.now)) (sym c.in-Err.is))
