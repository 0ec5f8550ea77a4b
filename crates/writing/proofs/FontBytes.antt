-- The definitions of pairs one by one: how long those so far are, and that the rest stands where all will. Assumes nothing.
use Rattle.std.proofs.Common.{◌≡◌, ℕ, ◌+◌, ◌*◌, ◌<◌, ◌≤◌, List, [], ◌++◌, length, get_or, drop, sym, refl, ap, ◌∙◌, arith, add-one, length-append}
use Rattle.std.proofs.lemmas.List.{drop_more, drop_all}
use Rattle.shelf.specs.Meaning.{Facts}
use Rattle.copies.specs.declared.pairs.Pair.{Pair}
use Rattle.copies.specs.Files.{fonts_bytes}
use Rattle.copies.specs.Marks.{define_bytes}
use Rattle.copies.specs.Writing.{overwritten}
use Rattle.writing.proofs.Overwrites.{over_more, over_none, length_over}

-- the definition of the pair at i
abbrev defined : (ℕ → Facts) → ℕ → Pair → List ℕ
defined F i p = define_bytes i p.size (F p.face)

font_more : (F : ℕ → Facts) (ps : List Pair) (i : ℕ) (d : Pair) → i < length ps → fonts_bytes F i (drop i ps) ≡ defined F i (get_or ps i d) ++ fonts_bytes F (i + 1) (drop (i + 1) ps)
unfolding fonts_bytes
font_more F ps i d lt = ap (fonts_bytes F i) (drop_more ps i d lt) ∙ ap (λ k. defined F i (get_or ps i d) ++ fonts_bytes F k (drop (i + 1) ps)) (sym (add-one i))

font_none : (F : ℕ → Facts) (ps : List Pair) (i : ℕ) → length ps ≤ i → fonts_bytes F i (drop i ps) ≡ []
unfolding fonts_bytes
font_none F ps i le = ap (fonts_bytes F i) (drop_all i ps le)

pub record Counted (F : ℕ → Facts) (ps : List Pair) (i sum : ℕ) : Type 0 where
  pub whole : sum + length (fonts_bytes F i (drop i ps)) ≡ length (fonts_bytes F 0 ps)
  pub most : sum ≤ 79 * i

pub record Laid (F : ℕ → Facts) (ps : List Pair) (first i at : ℕ) (was out : List ℕ) : Type 0 where
  pub whole : at + length (fonts_bytes F i (drop i ps)) ≡ first + length (fonts_bytes F 0 ps)
  pub over : overwritten at (fonts_bytes F i (drop i ps)) out ≡ overwritten first (fonts_bytes F 0 ps) was
  pub long : length out ≡ length was

module _ (F : ℕ → Facts) (ps : List Pair) where
  pub counted_more : (i sum : ℕ) (bytes : List ℕ) (d : Pair) → i < length ps → bytes ≡ defined F i (get_or ps i d) → length bytes ≤ 79 → Counted F ps i sum → Counted F ps (i + 1) (sum + length bytes)
  counted_more i sum bytes d lt e le w =
      record {
        whole = omega (arith, ap length (font_more F ps i d lt), length-append (defined F i (get_or ps i d)) (fonts_bytes F (i + 1) (drop (i + 1) ps)), ap length e, w.whole);
        most = omega (arith, w.most);
      }

  pub counted-all : (i sum : ℕ) → length ps ≤ i → Counted F ps i sum → sum ≡ length (fonts_bytes F 0 ps)
  counted-all i sum le w = omega (arith, ap length (font_none F ps i le), w.whole)

  pub laid_room : (first i at : ℕ) (was out bytes : List ℕ) (d : Pair) → i < length ps → bytes ≡ defined F i (get_or ps i d) → first + length (fonts_bytes F 0 ps) ≤ length was → Laid F ps first i at was out → at + length bytes ≤ length out
  laid_room first i at was out bytes d lt e room w =
      omega (arith, ap length (font_more F ps i d lt), length-append (defined F i (get_or ps i d)) (fonts_bytes F (i + 1) (drop (i + 1) ps)), ap length e, w.whole, w.long)

  pub laid_more : (first i at : ℕ) (was out new bytes : List ℕ) (d : Pair) → i < length ps → bytes ≡ defined F i (get_or ps i d) → new ≡ overwritten at bytes out → first + length (fonts_bytes F 0 ps) ≤ length was → Laid F ps first i at was out → Laid F ps first (i + 1) (at + length bytes) was new
  laid_more first i at was out new bytes d lt e o room w =
      let rest : List ℕ = fonts_bytes F (i + 1) (drop (i + 1) ps) in
      let all : fonts_bytes F i (drop i ps) ≡ bytes ++ rest = font_more F ps i d lt ∙ ap (λ x. x ++ rest) (sym e) in
      let both : length (fonts_bytes F i (drop i ps)) ≡ length bytes + length rest = ap length all ∙ length-append bytes rest in
      record {
        whole = omega (arith, both, w.whole);
        over =
            ap (overwritten (at + length bytes) rest) o
            ∙ over_more at (at + length bytes) bytes rest out refl (omega (arith, both, w.whole, w.long, room))
            ∙ ap (λ x. overwritten at x out) (sym all)
            ∙ w.over;
        long = ap length o ∙ length_over at bytes out (omega (arith, both, w.whole, w.long, room)) ∙ w.long;
      }

  pub laid-all : (first i at : ℕ) (was out : List ℕ) → length ps ≤ i → Laid F ps first i at was out → (at ≡ first + length (fonts_bytes F 0 ps)) × (out ≡ overwritten first (fonts_bytes F 0 ps) was)
  laid-all first i at was out le w =
      let none = font_none F ps i le in
      (omega (arith, ap length none, w.whole), sym (over_none at out) ∙ ap (λ x. overwritten at x out) (sym none) ∙ w.over)
