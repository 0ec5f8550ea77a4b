-- The pointer of the last page, as the code reads it. Assumes nothing.
use Rattle.std.proofs.Common.{◌≡◌, ℕ, ◌+◌, true, false, List, Some, None, sym, refl, ap, ◌∙◌, arith}
use Rattle.std.specs.Prelude.{◌≢◌, slice_index, ◌==◌}
use Rattle.std.proofs.lemmas.Bool.{eq-eqb, ne_eqb}
use Rattle.numbers.specs.Bytes.{number}
use Rattle.document.specs.Bytes.{four}
use Rattle.copies.specs.Pages.{Progress}
use Rattle.ledgers.specs.Steps.{is_pointer, pointer_back}

module _ (g : Progress) (out : List ℕ) (n p : ℕ) (bop : n ≡ number out g.last 1) (pointer : p ≡ number out (g.last + 41) 4) where
  byte : slice_index out g.last ≡ n
  byte =
      let zero : g.last + 0 ≡ g.last = omega arith in
      ap (slice_index out) (sym zero) ∙ omega (arith, bop)

  pub pointer_some : n ≡ 139 → true ≡ is_pointer g p → Some p ≡ pointer_back g out
  unfolding four
  pointer_some e fair =
      let here : (slice_index out g.last == 139) ≡ true = eq-eqb _ _ (byte ∙ e) in
      let f : is_pointer g (four out (g.last + 41)) ≡ true = ap (is_pointer g) (sym pointer) ∙ sym fair in
      rw (here, f) (ap Some pointer)

  pub no_bop : (n ≢ 139) → None ≡ pointer_back g out
  unfolding four
  no_bop e = let here : (slice_index out g.last == 139) ≡ false = ne_eqb _ _ (λ q. e (sym byte ∙ q)) in rw here refl

  pub unfair_pointer : n ≡ 139 → false ≡ is_pointer g p → None ≡ pointer_back g out
  unfolding four
  unfair_pointer e unfair =
      let here : (slice_index out g.last == 139) ≡ true = eq-eqb _ _ (byte ∙ e) in
      let f : is_pointer g (four out (g.last + 41)) ≡ false = ap (is_pointer g) (sym pointer) ∙ sym unfair in
      rw (here, f) refl
