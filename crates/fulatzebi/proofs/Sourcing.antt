-- Every page of a document, one after the other. Assumes nothing.
use Rattle.std.proofs.Common.{◌≡◌, ℕ, suc, ◌+◌, ◌-◌, ◌<◌, ◌≤◌, List, [], ◌∷◌, ◌++◌, sym, ap, ◌∙◌, arith, append-nil, append_assoc}
use Rattle.fulatzebi.specs.declared.records.SourceRecord.{SourceRecord}
use Rattle.fulatzebi.specs.Flat.{pages_from}

module _ (n pages : ℕ) where
  abbrev pub SoFar : ℕ → List SourceRecord → Type 0
  SoFar k ss = pages_from n 0 pages ≡ ss ++ pages_from n k (pages - k)

  more : (k left : ℕ) (ss : List SourceRecord) → left ≡ suc (left - 1) → ss ++ pages_from n k left ≡ (ss ++ record { place = 0; length = n; page = k + 1 } ∷ []) ++ pages_from n (k + 1) (left - 1)
  unfolding pages_from
  more k left ss e = ap (λ x. ss ++ pages_from n k x) e ∙ sym (append_assoc ss (record { place = 0; length = n; page = k + 1 } ∷ []) (pages_from n (k + 1) (left - 1)))

  pub one_more : (k : ℕ) (ss ss' : List SourceRecord) → k < pages → ss' ≡ ss ++ record { place = 0; length = n; page = k + 1 } ∷ [] → SoFar k ss → SoFar (k + 1) ss'
  one_more k ss ss' l e s =
      let shorter : pages - k - 1 ≡ pages - (k + 1) = omega arith in
      s ∙ more k (pages - k) ss (omega (arith, l)) ∙ ap (λ x. (ss ++ record { place = 0; length = n; page = k + 1 } ∷ []) ++ pages_from n (k + 1) x) shorter ∙ ap (λ xs. xs ++ pages_from n (k + 1) (pages - (k + 1))) (sym e)

  pub all_there : (k : ℕ) (ss : List SourceRecord) → pages ≤ k → SoFar k ss → ss ≡ pages_from n 0 pages
  unfolding pages_from
  all_there k ss l s =
      let none : pages - k ≡ 0 = omega arith in
      sym (s ∙ ap (λ x. ss ++ pages_from n k x) none ∙ append-nil ss)
