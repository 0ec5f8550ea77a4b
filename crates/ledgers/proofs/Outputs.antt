-- Bytes written over a part of an output, and pairs forgotten. Assumes nothing.
use Rattle.std.proofs.Common.{◌≡◌, ℕ, zero, suc, ◌+◌, ◌-◌, ◌<◌, ◌≤◌, Bool, true, false, cond, List, [], ◌∷◌, ◌++◌, length, take, drop, sym, refl, ap, ◌∙◌, arith, length-append, length-drop, append_assoc}
use Rattle.std.specs.List.{AllByRecursion, prefix_len}
use Rattle.std.specs.Prelude.{nat_lt}
use Rattle.std.proofs.lemmas.List.{length-take-le, take_at}
use Rattle.std.proofs.lemmas.Bool.{lt-ltb, le-ltb}
use Rattle.copies.specs.declared.pairs.Pair.{Pair}
use Rattle.copies.specs.Writing.{overwritten}
use Rattle.pairs.specs.Tables.{defined_before}

module _ (at : ℕ) (bs out : List ℕ) (room : at + length bs ≤ length out) where
  pub length-overwritten : length (overwritten at bs out) ≡ length out
  length-overwritten =
      omega (arith, length-append (take at out) (bs ++ drop (at + length bs) out), length-append bs (drop (at + length bs) out), length-take-le at out (omega arith), length-drop (at + length bs) out)

  pub take-overwritten : (n : ℕ) → n ≡ at + length bs → take n (overwritten at bs out) ≡ take at out ++ bs
  take-overwritten n e =
      ap (take n) (sym (append_assoc (take at out) bs (drop (at + length bs) out)))
      ∙ take_at (take at out ++ bs) (drop (at + length bs) out) n (omega (arith, e, length-append (take at out) bs, length-take-le at out (omega arith)))

forgotten-all : (n : ℕ) (ys : List Pair) → AllByRecursion (λ p. n ≤ p.place) ys → defined_before n ys ≡ []
forgotten-all n [] h = refl
forgotten-all n (y ∷ ys) h = rw (le-ltb y.place n h.0) refl

kept-one : (n : ℕ) (x : Pair) (xs : List Pair) → x.place < n → defined_before n (x ∷ xs) ≡ x ∷ defined_before n xs
kept-one n x xs h =
    let k = prefix_len (λ p. nat_lt p.place n) xs in
    let e : 1 + k ≡ suc k = omega arith in
    ap (λ b. take (cond b (1 + k) 0) (x ∷ xs)) (lt-ltb x.place n h) ∙ ap (λ j. take j (x ∷ xs)) e

-- the front of the table stays, what is defined from the place on goes
pub forgotten-back : (n : ℕ) (xs ys : List Pair) → AllByRecursion (λ p. p.place < n) xs → AllByRecursion (λ p. n ≤ p.place) ys → defined_before n (xs ++ ys) ≡ xs
forgotten-back n [] ys b h = forgotten-all n ys h
forgotten-back n (x ∷ xs) ys b h = kept-one n x (xs ++ ys) b.0 ∙ ap (λ zs. x ∷ zs) (forgotten-back n xs ys b.1 h)
