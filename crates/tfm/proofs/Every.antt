-- A test of every place below a number is a test of all in a range. Assumes nothing.
use Rattle.std.proofs.Common.{◌≡◌, ℕ, zero, suc, ◌+◌, ◌<◌, Bool, true, false, ◌&&◌, [], ◌∷◌, map, refl, sym, ap, ◌∙◌, ⊎_elim, add-one, arith}
use Rattle.std.proofs.Math.Bool.{and-true}
use Rattle.std.proofs.lemmas.Bool.{and_from, and_left, and_right, cases_eq}
use Rattle.std.specs.List.{range_with_len, list_all}
use Rattle.std.proofs.lemmas.List.FromFn.{map-range_with_len_more}
use Rattle.std.proofs.lemmas.List.Folds.{list_all-append, list_all-map}
use Rattle.tfm.specs.Files.{every}

module _ (p : ℕ → Bool) where
  every-map : (n : ℕ) → list_all (λ b. b) (map p (range_with_len 0 n)) ≡ every p n
  every-map zero = refl
  every-map (suc n) =
      ap (list_all (λ b. b)) (rw add-one at (map-range_with_len_more p 0 n n (omega arith)))
      ∙ list_all-append (λ b. b) (map p (range_with_len 0 n)) (p n ∷ [])
      ∙ ap (λ b. b && (p n && true)) (every-map n)
      ∙ ap (λ b. every p n && b) (and-true (p n))

  pub every-range : (n : ℕ) → list_all p (range_with_len 0 n) ≡ every p n
  every-range n = sym (list_all-map (λ b. b) p (range_with_len 0 n)) ∙ every-map n

  -- one place more
  pub every_more : (i : ℕ) → every p i ≡ true → p i ≡ true → every p (i + 1) ≡ true
  every_more i e h = rw add-one (and_from (every p i) (p i) e h)

  -- a place that fails
  pub every_stops : (i n : ℕ) → i < n → p i ≡ false → false ≡ every p n
  every_stops i zero l e = absurd (omega arith)
  every_stops i (suc n) l e = ⊎_elim here (λ q. before (every_stops i n (omega (arith, q)) e)) (cases_eq i n)
    where
      here : i ≡ n → false ≡ (every p n && p n)
      here q = sym (and_right (every p n) (p n) (ap p (sym q) ∙ e))

      before : false ≡ every p n → false ≡ (every p n && p n)
      before q = sym (and_left (every p n) (p n) (sym q))
