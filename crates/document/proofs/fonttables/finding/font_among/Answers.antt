-- No place from the number on, or what stands at the first such place.
use Rattle.std.proofs.Common.{◌≡◌, ◌∙◌, ◌<◌, ◌≤◌, List, ℕ, None, cond, length, slice_index_or, ap, rules}
use Rattle.std.specs.Option.{option_map}
use Rattle.commands.specs.Shapes.{defines as defined_by}
use Rattle.document.specs.Fonts.{defined_in, defined_at, has_number, number_by}
use Rattle.document.proofs.Tables.{none_from, at_point, kept_at}
use Rattle.document.proofs.fonttables.finding.font_among.Goals as goal

pub returns-in_err-place : goal.returns-in_err-place
returns-in_err-place c =
    let p = c.from_number.ensures in
    let le : length c.args.places.now ≤ c.from_number.result = search rules in
    ap (option_map defined_by) c.from_residual.ensures ∙ ap (defined_in c.args.front.now) (none_from c.args.front.now c.args.number c.args.places.now c.from_number.result (search rules) c.requires p.0 p.1 le)

pub returns : goal.returns
returns c =
    let p = c.from_number.ensures in
    let bs : List ℕ = c.args.front.now in
    let n : ℕ = c.args.number in
    let zs : List ℕ = c.args.places.now in
    let i : ℕ = c.from_number.result in
    let lt : i < length zs = search rules in
    let place : c.in_ok-place.field-0.now ≡ slice_index_or zs i 0 = search rules in
    let here : option_map defined_by c.definition_here.result ≡ defined_at bs (slice_index_or zs i 0) = c.definition_here.ensures ∙ ap (defined_at bs) place in
    c.numbered.ensures ∙ (ap (λ o. cond (has_number n (number_by o)) o None) here ∙ (kept_at bs n (slice_index_or zs i 0) ∙ ap (defined_in bs) (at_point bs n zs i (search rules) c.requires p.0 p.1 lt)))
