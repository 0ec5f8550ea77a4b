-- The table that was gathered, as the sort leaves it.
use Rattle.std.proofs.Common.{◌≡◌, ◌+◌, ◌∙◌, min, take, sym, ap, rules}
use Rattle.std.specs.List.Sorted.{IsNonDecreasingBy}
use Rattle.std.proofs.lemmas.List.Sorted.{IsNonDecreasingBy-from_sort_by_key}
use Rattle.document.specs.Fonts.{defined_in}
use Rattle.document.specs.Tables.{key_at}
use Rattle.document.proofs.Found.{font-most}
use Rattle.document.proofs.Tables.{first_sorted, sorted_numbers}
use Rattle.document.proofs.fonttables.FontTable.many.Goals as goal

pub invariant_of-result : goal.invariant_of-result
invariant_of-result c =
    let bs = take c.args.document.end c.args.bytes.now in
    let g = c.in-Some.ensures in
    let s = c.sort_unstable_by_key in
    let front : c.entries_of-entries.result.front.now ≡ bs = search rules in
    let from : c.entries_of-entries.result.at ≡ min (c.args.document.post + 29) 18446744073709551615 = search rules in
    let keyed : IsNonDecreasingBy (key_at bs) s.new.self = IsNonDecreasingBy-from_sort_by_key (key_at bs) s.new.self s.ensures.sorted (λ a r f h. search rules) in
    record {
      sorted = sorted_numbers bs _ _ s.ensures.permutation g.low keyed;
      whole = λ n. ap (defined_in bs) (sym (first_sorted bs n _ _ s.ensures.permutation g.rising keyed)) ∙ (rw (front, from) at (g.whole n) ∙ font-most c.args.bytes.now _ _ _ _ (search rules));
    }
