-- A part of a list, cut where the list ends. Assumes nothing.
use Rattle.std.proofs.Common.{◌≡◌, ℕ, ◌-◌, ◌<◌, ◌≤◌, List, [], length, take, drop, sym, ◌∙◌, arith}
use Rattle.std.proofs.lemmas.List.{take_rest, take_all, drop_all}

module _ (xs : List ℕ) (place n : ℕ) where
  pub part_none : length xs < place → [] ≡ take n (drop place xs)
  part_none lt = rw (drop_all place xs (omega arith)) (sym (take_all n [] (omega arith)))

  pub part_rest : length (take (length xs - place) (drop place xs)) ≤ n → take (length xs - place) (drop place xs) ≡ take n (drop place xs)
  part_rest le =
      let h : length (drop place xs) ≤ n = rw (take_rest xs place) at le in
      take_rest xs place ∙ sym (take_all n (drop place xs) h)

  pub part_front : take (n - 0) (take (length xs - place) (drop place xs)) ≡ take n (drop place xs)
  part_front = let z : n - 0 ≡ n = omega arith in rw (z, take_rest xs place)
