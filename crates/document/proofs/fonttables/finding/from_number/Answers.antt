-- By the places' order.
use Rattle.std.proofs.Common.{ltb, rules}
use Rattle.std.proofs.lemmas.List.Sorted.{IsPartitionPoint-from_clause, IsPartitionedBy-ltb}
use Rattle.document.specs.Tables.{number_at}
use Rattle.document.proofs.fonttables.finding.from_number.Goals as goal

pub returns : goal.returns
returns c = IsPartitionPoint-from_clause (λ p. ltb (number_at c.args.front.now p) c.args.number) c.args.places.now _ c.partition_point.ensures.partitioned (IsPartitionedBy-ltb (number_at c.args.front.now) c.args.places.now c.args.number c.requires) (λ a r f h. search rules)
