use Rattle.std.proofs.Common.{◌≡◌, Some, ◌∙◌}
use Rattle.std.proofs.lemmas.Int.{to_z-of_z}
use Rattle.numbers.specs.Bytes.{complement_at}
use Rattle.numbers.proofs.Writes.{signed_goes_to, signed-leaves, signed_reads_back}
use Rattle.numbers.proofs.bytes.write_signed.Goals as goal

pub returns : goal.returns
returns c =
    let s = c.args.bytes.now in
    let p = c.args.place in
    let w = c.args.width in
    let z = c.args.z in
    let n = c.in_ok-n.n in
    let f = c.ranges.z in
    let q : Some n ≡ complement_at w z = simp to_z-of_z at c.in_ok-n.ensures in
    record {
      after = c.write_unsigned.ensures.after ∙ signed_goes_to w z n q s p;
      bytes = c.write_unsigned.ensures.bytes ∙ signed-leaves w z n q s p;
      again = signed_reads_back w z n q c.write_unsigned.result c.write_unsigned.new.bytes p c.write_unsigned.ensures.again;
    }
