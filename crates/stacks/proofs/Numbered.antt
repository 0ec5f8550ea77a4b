-- A font of ranks: there is no rank, it is on the first, or it is on one behind.
use Rattle.std.proofs.Common.{◌≡◌, ℕ, ◌-◌, ◌<◌, ◌≤◌, List, [], ◌∷◌, length, take, drop, slice_index_or, Some, None, Vec, Global, sym, ap, ◌∙◌, refl, rules, arith}
use Rattle.std.proofs.lemmas.Bool.{cond-true, cond-false, lt-ltb, le-ltb}
use Rattle.std.proofs.Math.Seq.{take-length}
use Rattle.std.proofs.lemmas.Option.{slice_get-get_or}
use Rattle.terminal.specs.declared.values.Font.{Font}
use Rattle.stacks.specs.Fonts.{font_in}

module _ (n : ℕ) where
  pub no_rank : (rs : List (Vec Font Global)) → length rs < 1 → None ≡ font_in rs n
  unfolding font_in
  no_rank [] lt = refl
  no_rank (r ∷ rs) lt = absurd (omega arith)

  pub on_first : (rs : List (Vec Font Global)) (r : Vec Font Global) (fs : List Font) (e : Font) → 1 ≤ length rs → r ≡ slice_index_or rs 0 r → fs ≡ r.items → n < length fs → Some (slice_index_or fs n e) ≡ font_in rs n
  unfolding font_in
  on_first [] r fs e le f g lt = absurd (omega arith)
  on_first (x ∷ rs) r fs e le f g lt =
      let h : fs ≡ x.items = g ∙ ap (λ v. v.items) f in
      let within : n < length x.items = rw (sym h) lt in
      ap (λ l. Some (slice_index_or l n e)) h ∙ sym (slice_get-get_or x.items n e within) ∙ sym (cond-true _ _ _ (lt-ltb n (length x.items) within))

  pub behind : (rs : List (Vec Font Global)) (r : Vec Font Global) (fs : List Font) → 1 ≤ length rs → r ≡ slice_index_or rs 0 r → fs ≡ r.items → length fs ≤ n → font_in (take (length rs - 1) (drop 1 rs)) (n - length fs) ≡ font_in rs n
  unfolding font_in
  behind [] r fs le f g past = absurd (omega arith)
  behind (x ∷ rs) r fs le f g past =
      let h : fs ≡ x.items = g ∙ ap (λ v. v.items) f in
      let beyond : length x.items ≤ n = rw (sym h) past in
      let k : length (x ∷ rs) - 1 ≡ length rs = omega arith in
      ap (λ i. font_in (take i rs) (n - length fs)) k ∙ ap (λ l. font_in l (n - length fs)) (take-length rs) ∙ ap (λ l. font_in rs (n - length l)) h ∙ sym (cond-false _ _ _ (le-ltb n (length x.items) beyond))
