use Rattle.std.proofs.Common.{◌≡◌, ◌++◌}
use Rattle.std.specs.Option.{option_map}
use Rattle.std.specs.Slice.Iter.{chunks_rest, chunks_size}
use Rattle.script.specs.Bytes.{spelled_pairs}
use Rattle.script.proofs.words.bytes_of_pairs.Given as goal

abbrev pub invariant-loop-pair : goal.invariant-loop-pair
invariant-loop-pair l = record { by_two : chunks_size l.pair-iterator ≡ 2; goes_on : spelled_pairs l.digits ≡ option_map (λ more. l.bytes.items ++ more) (spelled_pairs (chunks_rest l.pair-iterator)) }
