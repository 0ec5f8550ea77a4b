-- Cases held against each other one by one. Assumes nothing.
use Rattle.std.proofs.Common.{◌≡◌, ℕ, suc, ◌+◌, ◌-◌, ◌<◌, ◌≤◌, true, false, List, ◌∷◌, ◌++◌, length, get_or, take, drop, sym, ap, ap₂, ◌∙◌, arith, append_assoc, add-one, length-drop, drop-cons}
use Rattle.std.proofs.lemmas.List.{drop-drop, take_all}
use Rattle.replay.specs.declared.comparing.Outcome.{Outcome}
use Rattle.std.proofs.lemmas.List.Sums.{common_prefix_len-le, common_prefix_len-drop_no, common_prefix_len-drop_yes}
use Rattle.replay.specs.Cases.{Case, Line, alike, outcomes, place_of, rest_behind, same_line, told_of}

-- what came of the cases so far, and then what comes of the others, is what comes of all
pub record SoFar (wanted got : List Case) (all : List Outcome) (k at : ℕ) : Type 0 where
  pub within : at ≤ length got
  pub told : all ++ outcomes (drop k wanted) (drop at got) ≡ outcomes wanted got

-- and with one case more
pub one-more : (wanted got : List Case) (all more : List Outcome) (k at n : ℕ) (d case : Case) (rest : List Case) → SoFar wanted got all k at → k < length wanted → get_or wanted k d ≡ case → rest ≡ take (length got - at) (drop at got)
    → more ≡ all ++ told_of case rest (place_of case rest) → (n ≤ length rest) × (drop n rest ≡ rest_behind rest (place_of case rest)) → SoFar wanted got more (k + 1) (at + n)
one-more wanted got all more k at n d case rest so-far here is all-behind told taken =
    let rest-is : drop at got ≡ rest = sym (take_all (length got - at) (drop at got) (omega (arith, length-drop at got))) ∙ sym all-behind in
    let place = place_of case rest in
    let inside = so-far.within in
    let within = taken.0 in
    let front : drop k wanted ≡ case ∷ drop (k + 1) wanted = drop-cons wanted k d here ∙ ap (λ x. x ∷ drop (suc k) wanted) is ∙ ap (λ j. case ∷ drop j wanted) (sym (add-one k)) in
    let behind : drop (at + n) got ≡ rest_behind rest place = sym (drop-drop n at got) ∙ ap (drop n) rest-is ∙ taken.1 in
    record {
      within = omega (arith, length-drop at got, ap length rest-is);
      told =
          ap (λ (xs : List Outcome). xs ++ outcomes (drop (k + 1) wanted) (drop (at + n) got)) told
          ∙ append_assoc all (told_of case rest place) (outcomes (drop (k + 1) wanted) (drop (at + n) got))
          ∙ ap (λ ys. all ++ (told_of case rest place ++ outcomes (drop (k + 1) wanted) ys)) behind
          ∙ ap₂ (λ xs ys. all ++ outcomes xs ys) (sym front) (sym rest-is)
          ∙ so-far.told;
    }

-- a line more is the same
pub alike_more : (wanted got : List Line) (k : ℕ) (d : Line) → k < length wanted → k < length got → same_line (get_or wanted k d) (get_or got k d) ≡ true → k + alike (drop k wanted) (drop k got) ≡ alike wanted got → k + 1 + alike (drop (k + 1) wanted) (drop (k + 1) got) ≡ alike wanted got
alike_more wanted got k d here there same so-far =
    let e = common_prefix_len-drop_yes same_line wanted got k d d here there same in
    omega (arith, e, so-far)

-- a line is another
pub alike_no : (wanted got : List Line) (k : ℕ) (d : Line) → k < length wanted → k < length got → same_line (get_or wanted k d) (get_or got k d) ≡ false → k + alike (drop k wanted) (drop k got) ≡ alike wanted got → k ≡ alike wanted got
alike_no wanted got k d here there same so-far =
    let e = common_prefix_len-drop_no same_line wanted got k d d here there same in
    omega (arith, e, so-far)

-- one case ends
pub alike_end : (wanted got : List Line) (k : ℕ) → length got ≤ k → k + alike (drop k wanted) (drop k got) ≡ alike wanted got → k ≡ alike wanted got
alike_end wanted got k end so-far =
    let most = common_prefix_len-le same_line (drop k wanted) (drop k got) in
    omega (arith, most.1, so-far, length-drop k got)
