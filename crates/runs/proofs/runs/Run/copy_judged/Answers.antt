use Rattle.std.proofs.Common.{◌≡◌, ◌∙◌, ap, List, length, take, Ok, Err, Some, None, sym, refl, arith}
use Rattle.std.specs.Option.{option_copied}
use Rattle.std.proofs.lemmas.List.{length-take-le}
use Rattle.std.proofs.lemmas.Result.{err_from_is_err_and}
use Rattle.copies.specs.declared.pairs.Pair.{Pair}
use Rattle.document.specs.Legal.{legal}
use Rattle.pairs.specs.Tables.{pairs_of}
use Rattle.writing.specs.Standings.{progress_of}
use Rattle.ledgers.specs.Rules.{too_short}
use Rattle.ledgers.specs.Sources.{Source, sourced, unread}
use Rattle.runs.specs.Views.{view_of, come_of}
use Rattle.runs.proofs.Copying.{read_ok, sourced-is, never_none, page-known, page-refused, page-added}
use Rattle.runs.proofs.runs.Run.copy_judged.Goals as goal

pub returns-in_err-counts-in-Open-clause-step : goal.returns-in_err-counts-in-Open-clause-step
returns-in_err-counts-in-Open-clause-step g c =
    let m = g.S.Shelf.means c.args.self.now.shelf.now in
    let d = c.args.document.now.stated in
    let s : Source = record { document = c.args.document.now.bytes.now; page = c.args.page } in
    let judged : legal c.args.document.now.bytes.now ≡ Ok d = grind arith in
    let mag : d.mag ≡ c.args.self.now.opening.mag = grind arith in
    let was : c.read_judged.result ≡ Ok c.in_ok-n-in-Open.n = grind arith in
    let none : c.counts_judged.result ≡ None = grind arith in
    let r = read_ok _ _ _ _ _ c.in_ok-n-in-Open.n tt c.in_ok-n-in-Open.ensures in
    absurd (never_none m c.args.self.now.opening.mag s d judged mag r.outcome r.is c.counts_judged.result c.counts_judged.ensures none)

pub slice_bounds-append_page-end : goal.slice_bounds-append_page-end
slice_bounds-append_page-end g c = (read_ok _ _ _ _ _ c.in_ok-n-in-Open.n tt c.in_ok-n-in-Open.ensures).within

pub slice_bounds-append_page-end-in-Open : goal.slice_bounds-append_page-end-in-Open
slice_bounds-append_page-end-in-Open g c =
    let r = read_ok _ _ _ _ _ c.in_ok-n-in-Open.n tt c.in_ok-n-in-Open.ensures in
    sym (length-take-le c.in_ok-n-in-Open.n c.read_judged.new.marks r.within)

pub returns-in_err-standing-in-Open-clause-step : goal.returns-in_err-standing-in-Open-clause-step
returns-in_err-standing-in-Open-clause-step g c =
    let p = err_from_is_err_and c.from_residual-in_err-standing-in-Open.result c.from_residual-in_err-standing-in-Open.ensures.1 in
    let m = g.S.Shelf.means c.args.self.now.shelf.now in
    let v = view_of g.S.Shelf.means c.args.self.now in
    let d = c.args.document.now.stated in
    let s : Source = record { document = c.args.document.now.bytes.now; page = c.args.page } in
    let n = c.in_ok-n-in-Open.n in
    let ps = pairs_of c.args.self.now.pairs in
    let k = progress_of c.in-Open.standing ps in
    let room = length c.args.marks.now in
    let judged : legal c.args.document.now.bytes.now ≡ Ok d = grind arith in
    let mag : d.mag ≡ v.opening.mag = grind arith in
    let r = read_ok _ _ _ _ _ n tt c.in_ok-n-in-Open.ensures in
    let enough : too_short k (length c.args.out.now) ≡ None = grind arith in
    let read : unread (sourced v.opening.mag m s) room ≡ None = ap (λ x. unread x room) (sourced-is m v.opening.mag s d judged mag) ∙ r.accepted in
    let there : c.counts_judged.result ≡ Some c.in_ok-counts-in-Open.counts = grind arith in
    let is = page-known m v.opening.mag s d judged mag r.outcome r.is c.in_ok-counts-in-Open.counts.now (take n c.read_judged.new.marks) (ap option_copied (sym there) ∙ c.counts_judged.ensures) r.whole in
    let was : c.append_page.result ≡ Err c.in_err-standing-in-Open.field-0.0 = grind arith in
    rw (p.1, p.2)
    (page-refused v k s room c.args.out.now (ap (λ t. come_of t ps) c.in-Open.is) enough read _ is c.append_page.result c.append_page.new.out (c.append_page.ensures.added v.opening) c.in_err-standing-in-Open.field-0.0 _ was
    (ap (λ (qs : List Pair). record { means = m; opening = v.opening; come = come_of c.args.self.now.state qs }) c.in_err-standing-in-Open.ensures.same))

pub returns-in_ok-standing-in-Open-clause-step : goal.returns-in_ok-standing-in-Open-clause-step
returns-in_ok-standing-in-Open-clause-step g c =
    let m = g.S.Shelf.means c.args.self.now.shelf.now in
    let v = view_of g.S.Shelf.means c.args.self.now in
    let d = c.args.document.now.stated in
    let s : Source = record { document = c.args.document.now.bytes.now; page = c.args.page } in
    let n = c.in_ok-n-in-Open.n in
    let ps = pairs_of c.args.self.now.pairs in
    let k = progress_of c.in-Open.standing ps in
    let room = length c.args.marks.now in
    let judged : legal c.args.document.now.bytes.now ≡ Ok d = grind arith in
    let mag : d.mag ≡ v.opening.mag = grind arith in
    let r = read_ok _ _ _ _ _ n tt c.in_ok-n-in-Open.ensures in
    let enough : too_short k (length c.args.out.now) ≡ None = grind arith in
    let read : unread (sourced v.opening.mag m s) room ≡ None = ap (λ x. unread x room) (sourced-is m v.opening.mag s d judged mag) ∙ r.accepted in
    let there : c.counts_judged.result ≡ Some c.in_ok-counts-in-Open.counts = grind arith in
    let is = page-known m v.opening.mag s d judged mag r.outcome r.is c.in_ok-counts-in-Open.counts.now (take n c.read_judged.new.marks) (ap option_copied (sym there) ∙ c.counts_judged.ensures) r.whole in
    let st = c.in_ok-standing-in-Open.standing in
    let was : c.append_page.result ≡ Ok st = grind arith in
    page-added v k s room c.args.out.now (ap (λ t. come_of t ps) c.in-Open.is) enough read _ is c.append_page.result c.append_page.new.out (c.append_page.ensures.added v.opening) st (pairs_of c.append_page.new.table) _ was c.in_ok-standing-in-Open.ensures.pairs refl
