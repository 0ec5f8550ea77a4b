use Rattle.std.proofs.Common.{◌≡◌, ◌^◌, ◌<◌}
use Rattle.numbers.specs.Bytes.{number}
use Rattle.numbers.proofs.bytes.padded.Given as goal

abbrev pub invariant-loop-i : goal.invariant-loop-i
invariant-loop-i l = record { value : l.n ≡ number l.fn.bytes l.place l.i; bound : l.n < 256 ^ l.i }
