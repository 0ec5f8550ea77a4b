-- Bytes that are spelled by pairs of digits, one pair after the other.
use Rattle.std.proofs.Common.{arith, ℕ, List, [], ◌∷◌, ◌++◌, ◌≡◌, ◌<◌, min, length, Option, Some, None, refl, append_assoc}
use Rattle.std.specs.Option.{option_and_then, option_map}
use Rattle.script.specs.Bytes.{spelled_pairs}
use Rattle.script.specs.Spelling.{spelled_byte}

-- the first pair, and then the others
first_pair : (rest pair after : List ℕ) → rest ≡ pair ++ after → length pair ≡ min 2 (length rest) → 0 < length rest → spelled_pairs rest ≡ option_and_then (λ byte. option_map (λ bytes. byte ∷ bytes) (spelled_pairs after)) (spelled_byte pair)
first_pair rest [] after e long some = absurd (omega arith)
first_pair rest (x ∷ []) after e long some = grind arith
first_pair rest (x ∷ y ∷ []) after e long some = rw e refl
first_pair rest (x ∷ y ∷ z ∷ zs) after e long some = absurd (omega arith)

-- a byte behind those so far
option_map-push : (bytes : List ℕ) (byte : ℕ) (o : Option (List ℕ)) → option_map (λ more. bytes ++ more) (option_map (λ more. byte ∷ more) o) ≡ option_map (λ more. (bytes ++ byte ∷ []) ++ more) o
option_map-push bytes byte None = refl
option_map-push bytes byte (Some more) = simp append_assoc

module _ (digits rest pair after bytes : List ℕ) (so_far : spelled_pairs digits ≡ option_map (λ more. bytes ++ more) (spelled_pairs rest)) (cut : rest ≡ pair ++ after) (long : length pair ≡ min 2 (length rest)) (some : 0 < length rest) where
  pub pair_taken : (byte : ℕ) → spelled_byte pair ≡ Some byte → spelled_pairs digits ≡ option_map (λ more. (bytes ++ byte ∷ []) ++ more) (spelled_pairs after)
  pair_taken byte e = rw (so_far, first_pair rest pair after cut long some, e) (option_map-push bytes byte (spelled_pairs after))

  pub pair_refused : spelled_byte pair ≡ None → spelled_pairs digits ≡ None
  pair_refused e = rw (so_far, first_pair rest pair after cut long some, e) refl
