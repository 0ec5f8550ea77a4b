-- The definitions at the end of the file, walked over. Assumes nothing.
use Rattle.std.proofs.Common.{◌≡◌, ℕ, zero, suc, ◌+◌, ◌-◌, ◌/◌, ◌<◌, ◌≤◌, Bool, true, false, eqb, List, [], ◌∷◌, ◌++◌, length, get_or, drop, Some, None, sym, ap, ◌∙◌, ap₂, arith, length-drop}
use Rattle.std.specs.List.{AllByRecursion, slice_get}
use Rattle.std.proofs.lemmas.Bool.{eq-eqb, ne_eqb}
use Rattle.numbers.specs.Lengths.{good_size}
use Rattle.shelf.specs.Laws.{Lawful}
use Rattle.shelf.specs.Meaning.{Meaning, Facts}
use Rattle.shelf.specs.Names.{good_name}
use Rattle.copies.specs.declared.pairs.Pair.{Pair}
use Rattle.copies.specs.Marks.{faces_of, define_bytes}
use Rattle.copies.specs.Files.{fonts_bytes}
use Rattle.document.specs.Fonts.{wide, defined_at, entry_of, entry_at, member, first_of, fair, unlawful, has_number, defines, defined_in}
use Rattle.document.proofs.Walks.{turn, hit, miss}
use Rattle.readback.proofs.Stands.{behind, head_at}
use Rattle.readback.proofs.Commands.{Fields, defined_by, length_define, definition-at}
use Rattle.readback.proofs.Pairs.{GoodPair}
use Rattle.readback.proofs.Marks.{some_there, facts_are, face-name, pair_fields}

-- the definition of a good pair is fair
pub pair-fair : (m : Meaning) (p : Pair) → Lawful m → GoodPair m p → (n : ℕ) → fair (Some (defined_by n p.size (faces_of m p.face))) ≡ true
pair-fair m p law good n =
    let f = some_there (slice_get m.faces p.face) good.1 in
    let facts = (law.good-faces p.face f.0 f.1).good-facts in
    let name = face-name m p.face f.0 law f.1 in
    let size : good_size (f.0.facts.design / 16) ≡ true = grind (arith, facts.design-least, facts.design-most) in
    let named : good_name f.0.facts.name ≡ true = grind (arith, name) in
    rw (facts_are m p.face f.0 f.1, good.0, size, named)

-- a definition of a pair at a place
module _ (t : List ℕ) (at n size : ℕ) (f : Facts) (rest : List ℕ) (e : drop at t ≡ define_bytes n size f ++ rest) (fields : Fields n size f) where
  first_byte : get_or t at 0 ≡ 243
  unfolding define_bytes
  first_byte = (head_at t at 243 _ e).1

  wide_is : wide t at ≡ 1
  wide_is = ap (λ b. b - 242) first_byte

  defined-is : defined_at t at ≡ Some (defined_by n size f)
  unfolding defined_at
  defined-is = grind (arith, wide_is, definition-at)

  entry_is : entry_of 1 (Some (defined_by n size f)) ≡ entry_at t at
  unfolding entry_at
  entry_is = sym (ap₂ entry_of wide_is defined-is)

  inside_bytes : at < length t
  unfolding define_bytes
  inside_bytes = (head_at t at 243 _ e).0

  lawful_is : (ns : List ℕ) → fair (Some (defined_by n size f)) ≡ true → member n ns ≡ false → unlawful t at ns ≡ false
  unfolding unlawful
  lawful_is ns ok new = rw (first_byte, defined-is, ok, ← entry_is, new)

  -- the definition has another number, or this one
  defines-is : (i : ℕ) (b : Bool) → eqb n i ≡ b → b ≡ defines t i at
  defines-is i b q = sym q ∙ ap (λ x. has_number i x.number) entry_is

-- no number from n on is among these
abbrev Below : ℕ → List ℕ → Type 0
Below n ns = (k : ℕ) → n ≤ k → member k ns ≡ false

below_more : (n : ℕ) (ns : List ℕ) → Below n ns → Below (suc n) (n ∷ ns)
below_more n ns b k h = let rest = b k (omega arith) in grind arith

module _ (m : Meaning) (law : Lawful m) (t : List ℕ) where
  abbrev F : ℕ → Facts
  F = faces_of m

  -- the bytes behind the first definition
  next-fonts : (at n : ℕ) (p : Pair) (ps : List Pair) → drop at t ≡ fonts_bytes F n (p ∷ ps) → (drop at t ≡ define_bytes n p.size (F p.face) ++ fonts_bytes F (suc n) ps) × (drop (at + (16 + length (F p.face).name)) t ≡ fonts_bytes F (suc n) ps)
  unfolding fonts_bytes
  next-fonts at n p ps e = grind (arith, behind, length_define)

  no-fonts : (at n : ℕ) → drop at t ≡ fonts_bytes F n [] → length t ≤ at
  unfolding fonts_bytes
  no-fonts at n e = omega (arith, ap length e, length-drop at t)

  -- each definition is lawful
  pub all_lawful : (ps : List Pair) (at n : ℕ) (ns : List ℕ) → AllByRecursion (GoodPair m) ps → n + length ps ≤ 64 → Below n ns → drop at t ≡ fonts_bytes F n ps → first_of (unlawful t) t at (length t - at) 0 ns ≡ None
  all_lawful [] at n ns good few new e = grind (arith, miss, no-fonts)
  all_lawful (p ∷ ps) at n ns good few new e =
      let f = F p.face in
      let fields = pair_fields m p law good.0 n (omega arith) in
      let next = next-fonts at n p ps e in
      let first = next.0 in
      sym (turn (unlawful t) t (length t) at (entry_of 1 (Some (defined_by n p.size f))) ns
      (entry_is t at n p.size f _ first fields) (inside_bytes t at n p.size f _ first fields) (omega arith)
      (sym (lawful_is t at n p.size f _ first fields ns (pair-fair m p law good.0 n) (new n (omega arith)))))
      ∙ all_lawful ps (at + (16 + length f.name)) (suc n) (n ∷ ns) good.1 (omega arith) (below_more n ns new) next.1

  -- the definition of a number is that of its pair
  pub font-found : (ps : List Pair) (at n : ℕ) (ns : List ℕ) → AllByRecursion (GoodPair m) ps → n + length ps ≤ 64 → drop at t ≡ fonts_bytes F n ps → (i j : ℕ) (p : Pair) → i ≡ n + j → slice_get ps j ≡ Some p → defined_in t (first_of (λ k ms. defines t i k) t at (length t - at) 0 ns) ≡ Some (defined_by i p.size (F p.face))
  font-found [] at n ns good few e i j p is has = cc
  font-found (q ∷ ps) at n ns good few e i zero p is has =
      let same : q ≡ p = cc in
      let f = F q.face in
      let fields = pair_fields m q law good.0 n (omega arith) in
      let first = (next-fonts at n q ps e).0 in
      let here : n ≡ i = omega arith in
      ap (defined_in t) (sym (hit (λ k ms. defines t i k) t (length t) at ns (inside_bytes t at n q.size f _ first fields) (defines-is t at n q.size f _ first fields i true (eq-eqb n i here))))
      ∙ defined-is t at n q.size f _ first fields
      ∙ ap₂ (λ (k : ℕ) (x : Pair). Some (defined_by k x.size (F x.face))) here same
  font-found (q ∷ ps) at n ns good few e i (suc j) p is has =
      let f = F q.face in
      let fields = pair_fields m q law good.0 n (omega arith) in
      let next = next-fonts at n q ps e in
      let first = next.0 in
      ap (defined_in t) (sym (turn (λ k ms. defines t i k) t (length t) at (entry_of 1 (Some (defined_by n q.size f))) ns
      (entry_is t at n q.size f _ first fields) (inside_bytes t at n q.size f _ first fields) (omega arith)
      (defines-is t at n q.size f _ first fields i false (ne_eqb n i (λ k. omega arith)))))
      ∙ font-found ps (at + (16 + length f.name)) (suc n) (n ∷ ns) good.1 (omega arith) next.1 i j p (omega arith) has
