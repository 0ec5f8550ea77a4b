-- The command that was read.
use Rattle.std.proofs.Common.{◌≡◌, ◌+◌, ◌∙◌, arith, rules, ap, length}
use Rattle.std.specs.Option.{option_map_or}
use Rattle.document.proofs.Walks.{span-read, turns_at}
use Rattle.document.proofs.entries.EntriesIterator.next.Goals as goal

pub returns-clause-steps : goal.returns-clause-steps
returns-clause-steps c =
    let h : c.map_or.result ≡ option_map_or (λ d. c.width_at-width.result + 15 + length d.name.now) c.definition_of-d.result 1 = search rules in
    turns_at _ _ _ _ (omega arith) c.width_at-width.ensures c.definition_of-d.ensures.is (ap (λ k. c.args.self.now.at + k) (h ∙ span-read _ _))
