use Rattle.std.proofs.Common.{arith, ap, sym, subst, List, ℕ, ◌+◌}
use Rattle.ledgers.specs.Steps.{opening_by}
use Rattle.runs.specs.Views.{view_of}
use Rattle.copying.specs.Copied.{Started, sources}
use Rattle.copying.proofs.Courses.{copied, one-more}
use Rattle.copying.proofs.copier.Copier.copy_pages.Goals as goal

pub loop-k-preserved : goal.loop-k-preserved
loop-k-preserved g c =
    let m = g.S.Shelf.means c.args.shelf.now in
    let document = c.args.document.now.bytes.now in
    let so-far = c.loop-k.invariant in
    let after = view_of g.S.Shelf.means c.copy_page.new.run in
    let goes = c.in_ok-copy_page.ensures m (opening_by so-far.stated) (sources document c.args.first c.loop-k.k) so-far.course in
    subst (λ (xs : List ℕ). Started m document (sources document c.args.first (c.loop-k.k + 1)) after xs) (ap (λ v. v.items) (sym c.count_marks.ensures))
    (one-more m document c.args.first c.loop-k.k c.in-Some.page _ after _ c.copy_page.new.self.out.items c.in_ok-copy_page.field-0 _ so-far goes c.in-Ok-2.is (grind arith))

pub returns-in-Ok-close : goal.returns-in-Ok-close
returns-in-Ok-close g c =
    let m = g.S.Shelf.means c.args.shelf.now in
    let document = c.args.document.now.bytes.now in
    let so-far = c.loop-k.invariant in
    let es = sources document c.args.first c.loop-k.k in
    copied m document c.args.first c.args.count c.loop-k.k _ _ _ so-far (c.in-Ok-close.ensures m (opening_by so-far.stated) es (g.met.S.Shelf.lawful c.args.shelf.now) so-far.course) (omega arith)
