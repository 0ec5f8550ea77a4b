-- A page more, a page that is refused, and the closing.
use Rattle.std.proofs.Common.{get_or, length, take, map, sym, ap, ◌∙◌}
use Rattle.std.specs.Option.{option_map, unwrap_or}
use Rattle.shelf.specs.Answers.{overlay}
use Rattle.shelf.specs.Refusals.{returned}
use Rattle.ledgers.specs.Sources.{Source}
use Rattle.ledgers.specs.Steps.{Seen, copy, seen, stepped}
use Rattle.ledgers.specs.Lists.{chained, read_at}
use Rattle.runs.specs.Views.{view_of, said, lengthened}
use Rattle.fulatzebi.specs.declared.records.SourceRecord.{SourceRecord}
use Rattle.fulatzebi.specs.declared.stops.Step.TheVariants.{Page, Closing}
use Rattle.fulatzebi.specs.declared.stops.Why.TheVariants.{BadRecord}
use Rattle.fulatzebi.specs.Answers.{accepted, refused}
use Rattle.fulatzebi.specs.Flat.{flat_stop, stop_at}
use Rattle.fulatzebi.specs.Records.{link_record}
use Rattle.fulatzebi.proofs.Copying.{lost, one_copied, one_refused, all_closed, not_closed}
use Rattle.fulatzebi.proofs.Refused.{refused_links}
use Rattle.fulatzebi.proofs.flattening.copy_by.Goals as goal

no_source : SourceRecord
no_source = record { place = 0; length = 0; page = 0 }

pub loop-index-preserved : goal.loop-index-preserved
unfolding no_source
loop-index-preserved g c =
    let i = c.loop-index.invariant in
    let v = view_of g.S.Shelf.means c.loop-index.run in
    let page = (get_or c.args.order.sources.now c.loop-index.index no_source).page in
    let bs = c.in-Some.document.now in
    let out = c.loop-index.out in
    let step =
    ap (λ r. seen (view_of g.S.Shelf.means c.copy.new.self) c.copy.new.out (said r)) (sym c.in_default-copy.is)
    ∙ c.copy.ensures.step
    ∙ ap (λ n. stepped v (copy (record { document = bs; page = page }) n) out) i.list in
    record {
      copied = one_copied _ _ _ _ _ c.loop-index.index v out i.copied no_source c.loop-index-test.true bs (ap (option_map (λ s. s.now)) (sym c.in-Some.is) ∙ c.bytes_at.ensures) _ _ step;
      links = i.links;
      chain = c.copy.auto.chain ∙ i.chain;
      list = c.copy.auto.marks ∙ i.list;
    }

pub returns-in_default : goal.returns-in_default
unfolding no_source
returns-in_default g c =
    let i = c.loop-index.invariant in
    let v = view_of g.S.Shelf.means c.loop-index.run in
    ap (λ a. record { answer = a; links = c.loop-index.links; out = c.loop-index.out }) c.refused-in_default.ensures
    ∙ ap (λ ls. flat_stop (record { step = Page c.loop-index.index; why = BadRecord }) ls c.loop-index.out) i.links
    ∙ lost _ _ _ _ _ c.loop-index.index v c.loop-index.out i.copied no_source c.loop-index-test.true (ap (option_map (λ s. s.now)) (sym c.in_default.is) ∙ c.bytes_at.ensures)

pub returns-in-Err-copy : goal.returns-in-Err-copy
unfolding no_source
returns-in-Err-copy g c =
    let i = c.loop-index.invariant in
    let v = view_of g.S.Shelf.means c.loop-index.run in
    let room = c.args.order.marks in
    let L = c.args.links.now in
    let e = c.in-Err-copy.refusal in
    let bs = c.in-Some.document.now in
    let out = c.loop-index.out in
    let chain = c.loop-index.chain in
    let s : Source = record { document = bs; page = (get_or c.args.order.sources.now c.loop-index.index no_source).page } in
    let step =
    ap (λ r. seen (view_of g.S.Shelf.means c.copy.new.self) c.copy.new.out (said r)) (sym c.in-Err-copy.is)
    ∙ c.copy.ensures.step
    ∙ ap (λ n. stepped v (copy s n) out) i.list in
    let handed =
    c.put_links.ensures
    ∙ ap (λ ls. overlay (map link_record c.written_links.result.now) ls) i.links
    ∙ ap (λ xs. overlay (map link_record xs) L) c.written_links.ensures
    ∙ ap (λ ch. overlay (map link_record (take (unwrap_or (returned e).links 0) ch)) L) (c.copy.ensures.chain ∙ ap (λ n. chained (read_at v s (length out)) n chain) i.list)
    ∙ refused_links L chain i.chain room v s out e (sym (ap (λ (x : Seen). x.answer) step)) in
    ap (λ a. record { answer = a; links = c.put_links.new.to; out = c.copy.new.out }) (c.refused-in-Err-copy-2.ensures ∙ ap (λ x. refused x 0) c.refused-in-Err-copy.ensures)
    ∙ one_refused _ _ _ _ _ c.loop-index.index v out i.copied no_source c.loop-index-test.true bs (ap (option_map (λ x. x.now)) (sym c.in-Some.is) ∙ c.bytes_at.ensures) _ _ e _ step handed

pub returns-in-Ok-close : goal.returns-in-Ok-close
returns-in-Ok-close g c =
    let i = c.loop-index.invariant in
    let v = view_of g.S.Shelf.means c.loop-index.run in
    let step = ap (λ r. seen (view_of g.S.Shelf.means c.close.new.self) c.close.new.out (lengthened r)) (sym c.in-Ok-close.is) ∙ c.close.ensures.step in
    ap (λ a. record { answer = a; links = c.loop-index.links; out = c.close.new.out }) c.accepted.ensures
    ∙ ap (λ ls. record { answer = accepted 0 c.in-Ok-close.length; links = ls; out = c.close.new.out }) i.links
    ∙ all_closed _ _ _ _ _ c.loop-index.index v c.loop-index.out i.copied c.loop-index-test.false _ _ _ step

pub returns-in-Err-close : goal.returns-in-Err-close
returns-in-Err-close g c =
    let i = c.loop-index.invariant in
    let v = view_of g.S.Shelf.means c.loop-index.run in
    let step = ap (λ r. seen (view_of g.S.Shelf.means c.close.new.self) c.close.new.out (lengthened r)) (sym c.in-Err-close.is) ∙ c.close.ensures.step in
    ap (λ a. record { answer = a; links = c.loop-index.links; out = c.close.new.out }) (c.refused-in-Err-close-2.ensures ∙ ap (λ x. refused x 0) c.refused-in-Err-close.ensures)
    ∙ ap (λ ls. flat_stop (stop_at Closing c.in-Err-close.refusal) ls c.close.new.out) i.links
    ∙ not_closed _ _ _ _ _ c.loop-index.index v c.loop-index.out i.copied c.loop-index-test.false _ _ _ step
