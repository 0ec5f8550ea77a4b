-- Marks that are the same by `==`. Assumes nothing.
use Rattle.std.proofs.Common.{◌≡◌, ℕ, Bool, true, false, ◌&&◌, List, [], ◌∷◌, refl, ap₂, arith}
use Rattle.std.specs.Cmp.Lexicographic.{pointwise}
use Rattle.shelf.specs.declared.marks.Mark.{Mark}
use Rattle.shelf.specs.declared.marks.Mark.TheVariants.{Glyph, Rule}
use Rattle.answers.specs.Lists.{same_mark}

both : (a b : Bool) → (a && b) ≡ true → (a ≡ true) × (b ≡ true)
both true b e = (refl, e)
both false b e = absurd (let z : ◌≡◌ {A = ℕ} 0 1 = cc in omega arith)

mark-is : (a b : Mark) → same_mark a b ≡ true → a ≡ b
mark-is (Glyph f s c h v) (Glyph f2 s2 c2 h2 v2) e = grind (arith, both)
mark-is (Rule y w h v) (Rule y2 w2 h2 v2) e = grind (arith, both)
mark-is (Glyph f s c h v) (Rule y w h2 v2) e = absurd (let z : ◌≡◌ {A = ℕ} 0 1 = cc in omega arith)
mark-is (Rule y w h2 v2) (Glyph f s c h v) e = absurd (let z : ◌≡◌ {A = ℕ} 0 1 = cc in omega arith)

pub marks-are : (xs ys : List Mark) → pointwise same_mark xs ys ≡ true → xs ≡ ys
marks-are [] [] e = refl
marks-are [] (y ∷ ys) e = absurd (let z : ◌≡◌ {A = ℕ} 0 1 = cc in omega arith)
marks-are (x ∷ xs) [] e = absurd (let z : ◌≡◌ {A = ℕ} 0 1 = cc in omega arith)
marks-are (x ∷ xs) (y ∷ ys) e =
    let b = both (same_mark x y) (pointwise same_mark xs ys) e in
    ap₂ (λ (z : Mark) (zs : List Mark). z ∷ zs) (mark-is x y b.0) (marks-are xs ys b.1)
