use Rattle.std.proofs.Common.{◌≡◌, ℕ, Ok, Result, ap, sym, subst, take, ◌∙◌, ◌-◌, List, arith}
use Rattle.shelf.specs.declared.marks.Mark.{Mark}
use Rattle.shelf.specs.declared.refusals.Refusal.{Refusal}
use Rattle.shelf.specs.Outcomes.{ends, well}
use Rattle.machine.specs.Views.{counted}
use Rattle.reading.specs.Reading.{Served, page_reading}
use Rattle.answers.specs.Fresh.{no_links, no_marks}
use Rattle.copying.proofs.Pages.{read_whole}
use Rattle.copying.proofs.checks.marks_of.Goals as goal

pub returns-in-Some : goal.returns-in-Some
returns-in-Some g c =
    let reading = page_reading (g.S.Shelf.means c.args.shelf.now) c.args.bytes.now c.args.stated c.args.page in
    let read = c.in_ok-read.ensures in
    let served = subst (λ (a : Result ℕ Refusal). Served reading (no_links 5) c.in_ok-read.read.lists.chain.items (no_marks read.0) c.in_ok-read.read.lists.marks.items (counted a)) c.in-Ok.is read.1 in
    let items : c.in_ok-from_slice-in-Some.field-0.items ≡ take c.in-Ok.count c.in_ok-read.read.lists.marks.items = c.in_ok-from_slice-in-Some.ensures.items ∙ c.in-Some.ensures.lookup.0.2 ∙ ap (λ (xs : List Mark). take (c.in-Ok.count - 0) xs) c.as_slice.ensures.value ∙ grind arith in
    read_whole reading _ _ _ _ c.in-Ok.count served ∙ ap (λ (ms : List Mark). Ok (ends ms (well tt))) (sym items)
