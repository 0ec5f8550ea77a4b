-- The ten counts of a page as a chunk of a slice. Assumes nothing.
use Rattle.std.proofs.Common.{◌≡◌, ℕ, ◌+◌, ◌<◌, ◌≤◌, List, length, take, drop, Some, None, Option, Bor, sym, ap, ◌∙◌, arith, length-take, length-drop}
use Rattle.std.specs.Option.{option_copied, MatchOption}
use Rattle.std.specs.Array.{IsFirstChunk}
use Rattle.std.proofs.lemmas.List.{take-take}
use Rattle.std.proofs.lemmas.Bool.{cond-true, cond-false, le-leb, lt-leb}
use Rattle.reading.specs.Reading.{counts_by}

pub chunk_counts : (bs part : List ℕ) (a : ℕ) (r : Option (Bor (List ℕ))) → part ≡ take 40 (drop (a + 1) bs) → MatchOption r (length part < 40) (λ y. IsFirstChunk part y.now 40) → option_copied r ≡ counts_by bs (Some a)
chunk_counts bs part a None e c = sym (cond-false _ _ _ (lt-leb (a + 41) (length bs) (omega (arith, ap length e, length-take 40 (drop (a + 1) bs), length-drop (a + 1) bs))))
chunk_counts bs part a (Some y) e c =
    let x = drop (a + 1) bs in
    let enough = c.enough in
    let long : a + 41 ≤ length bs = omega (arith, ap length e, length-take 40 x, length-drop (a + 1) bs) in
    ap Some (c.same ∙ ap (take 40) e ∙ take-take 40 40 x (omega arith)) ∙ sym (cond-true _ _ _ (le-leb (a + 41) (length bs) long))
