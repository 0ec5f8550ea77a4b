-- The bytes that words spell, and what a call makes of them.
use Rattle.std.specs.Prelude.{ℕ, ◌≡◌, ◌⊎◌, cond, nat_lt, List, [], ◌∷◌, replicate, codes, Option, None, Some, Result, Ok, Err, alloc_error}
use Rattle.std.specs.Option.{ok_or, option_and_then, option_map}
use Rattle.std.specs.Str.{bytes_eq}
use Rattle.std.specs.Vec.{vec_items}
use Rattle.std.specs.declared.vec.Vec.{Vec}
use Rattle.script.specs.Spelling.{hexadecimal_after, unsigned}
use Rattle.script.specs.declared.problems.Problem.{Problem}
use Rattle.script.specs.declared.problems.Problem.TheVariants.{NoMemory, NotByte, NotNumber}

-- the bytes of pairs of digits
abbrev pub spelled_pairs : List ℕ → Option (List ℕ)
spelled_pairs [] = Some []
spelled_pairs (letter ∷ []) = None
spelled_pairs (high ∷ low ∷ more) =
    option_and_then (λ byte. option_map (λ bytes. byte ∷ bytes) (spelled_pairs more)) (hexadecimal_after 0 (high ∷ low ∷ []))

-- the bytes of a word: those of its pairs of digits, or none of a minus sign alone
abbrev pub spelled_bytes : List ℕ → Option (List ℕ)
spelled_bytes word = cond (bytes_eq word (codes "-")) (Some []) (spelled_pairs word)

-- so many bytes that are all alike, by the numbers of the words for the byte and for how many
abbrev pub filled : Option ℕ → Option ℕ → Result (List ℕ) Problem
filled None count = Err NotNumber
filled (Some byte) count = cond (nat_lt byte 256) (ok_or (option_map (λ n. replicate n byte) count) NotNumber) (Err NotByte)

abbrev pub filled_bytes : List ℕ → List ℕ → Result (List ℕ) Problem
filled_bytes byte count = filled (unsigned byte) (unsigned count)

-- a call makes the bytes, or hands the problem on; but memory may be wanting
abbrev pub Makes : {A : Type 0} → Result (List ℕ) Problem → Result (Vec ℕ A) Problem → Type 0
Makes given (Ok made) = given ≡ Ok (vec_items made)
Makes given (Err problem) = (problem ≡ NoMemory alloc_error) ⊎ (given ≡ Err problem)
