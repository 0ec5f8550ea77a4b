-- By the last byte that is no 223.
use Rattle.std.proofs.Common.{◌≡◌, ◌+◌, ◌∙◌, length, sym, rules}
use Rattle.std.specs.Option.{option_map_or}
use Rattle.document.proofs.Endings.{bare_is}
use Rattle.document.proofs.checks.bare_length.Goals as goal

pub returns : goal.returns
returns c =
    let h : c.map_or.result ≡ option_map_or (λ i. i + 1) c.last_other.result 0 = search rules in
    h ∙ sym (bare_is c.args.bytes.now (length c.args.bytes.now) c.last_other.result c.last_other.ensures.none c.last_other.ensures.some c.last_other.ensures.behind)
