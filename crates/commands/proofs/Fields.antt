-- What stands behind a place of a list, and the definition that it makes. Assumes nothing.
use Rattle.std.proofs.Common.{◌≡◌, ℕ, ◌+◌, ◌≤◌, ◌&&◌, true, leb, List, length, get_or, take, drop, Some, Option, sym, ap, ◌∙◌, arith}
use Rattle.std.proofs.lemmas.Bool.{le-leb, cond-true, and_parts, and_from}
use Rattle.std.proofs.lemmas.List.{get_or-drop}
use Rattle.numbers.specs.Bytes.{is_width, readable, number, number_at}
use Rattle.numbers.proofs.Digits.{number_same}
use Rattle.numbers.proofs.Writes.{allowed}
use Rattle.commands.specs.Definitions.{Defined, name_length, definition_at}

module _ (s t : List ℕ) (p : ℕ) (rest : t ≡ drop p s) where
  pub byte_behind : (i j : ℕ) → j ≡ p + i → get_or t i 0 ≡ get_or s j 0
  byte_behind i j e = rw (rest, e) (get_or-drop p s i 0)

  pub number_behind : (i j w : ℕ) → j ≡ p + i → number t i w ≡ number s j w
  number_behind i j w e = number_same t s i j w (λ k l. byte_behind (i + k) (j + k) (omega arith))

pub defined_there : (s : List ℕ) (at w n checksum size design k : ℕ) (name : List ℕ) → Some n ≡ number_at s (at + 1) w
    → checksum ≡ number s (at + w + 1) 4 → size ≡ number s (at + w + 5) 4 → design ≡ number s (at + w + 9) 4
    → k ≡ name_length s at w → name ≡ take k (drop (at + w + 15) s) → at + w + 15 + k ≤ length s
    → ◌≡◌ {A = Option Defined} (Some (record { number = n; checksum = checksum; size = size; design = design; name = name })) (definition_at s at w)
defined_there s at w n checksum size design k name q ec ez ed ek en room =
    let a = allowed (readable s (at + 1) w) n (number s (at + 1) w) q in
    let wide = (and_parts (is_width w) (leb (at + 1 + w) (length s)) a.0).0 in
    let outer : (is_width w && leb (at + w + 15) (length s)) ≡ true = and_from _ _ wide (le-leb (at + w + 15) (length s) (omega arith)) in
    let inner : leb (at + w + 15 + name_length s at w) (length s) ≡ true = le-leb (at + w + 15 + name_length s at w) (length s) (omega (arith, ek)) in
    let en' : name ≡ take (name_length s at w) (drop (at + w + 15) s) = en ∙ ap (λ j. take j (drop (at + w + 15) s)) ek in
    rw (a.1, ec, ez, ed, en') (sym (cond-true _ _ _ outer ∙ cond-true _ _ _ inner))
