use Rattle.std.proofs.Common.{rules, arith, ℕ, List, ◌≡◌, ◌+◌, ◌<◌, ◌^◌, ◌++◌, ◌-◌, false, [], ◌∷◌, take, length, get_or, refl}
use Rattle.std.proofs.Output.{has_written_append, has_written_of_eq}
use Rattle.std.proofs.lemmas.Fmt.{hex_byte}
use Rattle.std.proofs.lemmas.Grind.{flat_map-append}
use Rattle.std.proofs.lemmas.List.{take_more}
use Rattle.std.specs.Fmt.{digits, format_spec, padded_integral}
use Rattle.std.specs.List.{flat_map}
use Rattle.answers.specs.Lines.{byte_digits}
use Rattle.answers.proofs.lines.DigitsDisplay.fmt.Goals as goal

-- the digits of one byte more
next_byte : (bytes : List ℕ) (i : ℕ) → i < length bytes → get_or bytes i 0 < 256 → flat_map byte_digits (take i bytes) ++ padded_integral (format_spec 32 0 4 2 (2 ^ 64 - 1)) false [] (digits 16 false (get_or bytes i 0)) ≡ flat_map byte_digits (take (i + 1) bytes)
next_byte bytes i within small = rw (take_more bytes i 0 within, flat_map-append byte_digits (take i bytes) (get_or bytes i 0 ∷ []), hex_byte false (get_or bytes i 0) small) refl

pub loop-byte-preserved : goal.loop-byte-preserved
loop-byte-preserved g c = λ plain.
    has_written_of_eq _ _ _ _ _ (next_byte c.args.self.now.0.now c.loop-byte.byte-index (omega arith) (search rules)) (has_written_append _ _ _ _ _ _ (c.loop-byte.invariant plain) (search rules))
