use Rattle.std.proofs.Common.{◌≡◌, ◌+◌, ◌-◌, ◌≤◌, true, length, drop, sym, ap, ◌∙◌, arith, rules}
use lib.Seq.{paste}
use borrow.Rule.Slice.PartMut.{put_mid}
use Rattle.std.proofs.lemmas.Slice.{put_mid-paste, between_to_end}
use Rattle.numbers.specs.Bytes.{digits, fitting, number_at}
use Rattle.numbers.proofs.Digits.{low_bytes, length_digits}
use Rattle.numbers.proofs.Writes.{goes_to, leaves, reads_back}
use Rattle.numbers.proofs.bytes.write_unsigned.Goals as goal

pub returns : goal.returns
returns c =
    let s = c.args.bytes.now in
    let p = c.args.place in
    let w = c.args.width in
    let n = c.args.n in
    let b = c.to_be_bytes.result in
    let room : p + w ≤ length s = omega arith in
    let fit : fitting w n ≡ true = sym c.if-not-fits.ensures in
    let four : length b ≡ 4 = rw c.to_be_bytes.ensures in
    let low : drop (4 - w) b ≡ digits w n = rw c.to_be_bytes.ensures (low_bytes w n (search rules)) in
    let same : c.copy_from_slice.new.self ≡ digits w n = c.copy_from_slice.ensures.after ∙ (between_to_end b (4 - w) _ (search rules) ∙ low) in
    let pasted : put_mid p (p + w - p) s c.copy_from_slice.new.self ≡ paste s p (digits w n) w =
    put_mid-paste p _ s c.copy_from_slice.new.self (digits w n) w same (omega arith) (rw length_digits) in
    record {
      after = goes_to s p w n room fit;
      bytes = pasted ∙ leaves s p w n room fit;
      again = ap (λ t. number_at t p w) pasted ∙ reads_back s p w n room fit;
    }
