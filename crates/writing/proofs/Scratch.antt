-- A number written at the front of a few bytes. Assumes nothing.
use Rattle.std.proofs.Common.{◌≡◌, ℕ, ◌^◌, ◌<◌, ◌≤◌, true, ltb, List, length, take, sym, ap, ◌∙◌, zero-add, arith}
use lib.Seq.{paste}
use Rattle.std.proofs.lemmas.Bool.{lt-ltb, and_from}
use Rattle.std.proofs.lemmas.List.{take_all}
use Rattle.std.proofs.lemmas.List.Edits.{take-paste}
use Rattle.numbers.specs.Bytes.{is_width, digits, fitting, written}
use Rattle.numbers.proofs.Digits.{length_digits}
use Rattle.numbers.proofs.Writes.{leaves}

pub front_written : (s : List ℕ) (w n : ℕ) → w ≤ length s → is_width w ≡ true → n < 256 ^ w → take w (written s 0 w n) ≡ digits w n
front_written s w n room width low =
    let fit : fitting w n ≡ true = and_from (is_width w) (ltb n (256 ^ w)) width (lt-ltb n (256 ^ w) low) in
    let long = length_digits w n in
    let front : take w (paste s 0 (digits w n) w) ≡ take w (digits w n) = ap (λ k. take k (paste s 0 (digits w n) w)) (sym (zero-add w)) ∙ take-paste s 0 (digits w n) w (omega arith) (omega arith) in
    ap (take w) (sym (leaves s 0 w n (omega arith) fit)) ∙ front ∙ take_all w (digits w n) (omega arith)
