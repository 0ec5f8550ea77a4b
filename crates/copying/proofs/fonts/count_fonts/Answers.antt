use Rattle.std.proofs.Common.{rules, ◌+◌, ◌-◌, ◌^◌, ℕ, List, sym, ap, ap₂, ◌∙◌}
use Rattle.copying.specs.Counts.{defined_in, fonts_by}
use Rattle.copying.proofs.Counts.{within-top}
use Rattle.copying.proofs.fonts.count_fonts.Goals as goal

pub returns-in-Ok : goal.returns-in-Ok
returns-in-Ok c =
    let bytes = c.args.bytes.now in
    c.count_defined.ensures ∙ ap₂ (λ (bs : List ℕ) (from : ℕ). defined_in bs from) c.entries_of.ensures.front c.entries_of.ensures.at
    ∙ within-top bytes c.in-Ok.stated.end (c.in-Ok.stated.post + 29) (2 ^ 64 - 1) (search rules)
    ∙ ap (fonts_by bytes) (sym c.in-Ok.is ∙ c.legal.ensures)
