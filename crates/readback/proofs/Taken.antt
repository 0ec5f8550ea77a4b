-- The last page taken off again: the pairs before the first that is defined at its place or behind it are those of the copy before. Assumes nothing.
use Rattle.std.proofs.Common.{◌≡◌, ℕ, ◌+◌, ◌<◌, Bool, true, false, cond, ltb, List, [], ◌∷◌, ◌++◌, refl, ap, ◌∙◌, arith}
use Rattle.std.specs.List.{AllByRecursion, take_while}
use Rattle.std.proofs.ByRecursion.{All-weaker}
use Rattle.std.proofs.lemmas.Bool.{lt-ltb, le-ltb}
use Rattle.std.proofs.lemmas.List.Sums.{take_while-cons}
use Rattle.shelf.specs.Meaning.{Facts}
use Rattle.copies.specs.declared.pairs.Pair.{Pair}
use Rattle.copies.specs.Pages.{Page, Progress, with_page}
use Rattle.readback.proofs.Pairs.{Between}
use Rattle.readback.proofs.Pages.{page_places}

-- what passes in front, and then what does not
front_passes : {X : Type 0} (p : X → Bool) (xs ys : List X) → AllByRecursion (λ x. p x ≡ true) xs → AllByRecursion (λ y. p y ≡ false) ys → take_while p (xs ++ ys) ≡ xs
front_passes p [] [] a b = refl
front_passes p [] (y ∷ ys) a b = take_while-cons p y ys ∙ ap (λ t. cond t (y ∷ take_while p ys) []) b.0
front_passes p (x ∷ xs) ys a b = take_while-cons p x (xs ++ ys) ∙ ap (λ t. cond t (x ∷ take_while p (xs ++ ys)) []) a.0 ∙ ap (λ l. x ∷ l) (front_passes p xs ys a.1 b)

-- all pairs are defined in the bytes used before the page, as `progress_places` has it of every copy
pub taken_off : (F : ℕ → Facts) (g : Progress) (p : Page) → AllByRecursion (λ q. q.place < g.used) g.pairs → take_while (λ q. ltb q.place g.used) (with_page F g p).pairs ≡ g.pairs
taken_off F g p a =
    let test : Pair → Bool = λ q. ltb q.place g.used in
    let hi : ℕ = (with_page F g p).used in
    let more = page_places F g p in
    ap (take_while test) more.is
    ∙ front_passes test g.pairs more.more
    (All-weaker (λ q. q.place < g.used) (λ q. test q ≡ true) (λ q h. lt-ltb q.place g.used h) g.pairs a)
    (All-weaker (Between (g.used + 45) hi) (λ q. test q ≡ false) (λ q h. le-ltb q.place g.used (omega (arith, h.0))) more.more more.each)
