-- Calls of a rank's characters. Assumes nothing.
use Rattle.std.proofs.Common.{◌≡◌, ℕ, zero, suc, ◌-◌, ◌<◌, ◌≤◌, cond, ◌&&◌, List, [], ◌∷◌, ◌++◌, map, length, get_or, ℤ, Some, Ok, Err, Result, sym, refl, ap, ◌∙◌, arith, length-append}
use Rattle.std.proofs.lemmas.Bool.{cond-true, cond-false, lt-ltb, le-ltb}
use Rattle.std.specs.List.{slice_get}
use Rattle.shelf.specs.declared.refusals.Cause.{Cause}
use Rattle.shelf.specs.declared.refusals.Cause.TheVariants.{NoFont, OutOfRange, BadSize}
use Rattle.numbers.specs.Lengths.{good_size, in_range}
use Rattle.shelf.specs.Meaning.{Meaning, called, started}
use Rattle.shelf.specs.Outcomes.{faulty}
use Rattle.shelf.specs.Served.{called-fault, called_runs}
use Rattle.expansion.specs.Expanding.{expanded}
use Rattle.rank.specs.Entries.{Entry, entry_name}
use Rattle.rank.specs.Ranks.{rank_meaning, file_outcome}

module _ (m : Meaning) (es : List Entry) (font size code : ℕ) (h v : ℤ) where
  -- a font below answers as it does there
  pub called-below : font < length m.names → called (rank_meaning m es) font size code h v ≡ called m font size code h v
  called-below l = by (started (length m.names) font size h v) refl
    where
      within : font < length (m.names ++ map entry_name es)
      within = omega (arith, length-append m.names (map entry_name es))

      -- the checks are the same over both
      checks : started (length (m.names ++ map entry_name es)) font size h v ≡ started (length m.names) font size h v
      checks =
          let rest : Result (ℤ × ℤ) Cause = cond (good_size size) (cond (in_range h && in_range v) (Ok (h, v)) (Err OutOfRange)) (Err BadSize) in
          ap (λ b. cond b rest (Err NoFont)) (lt-ltb font (length (m.names ++ map entry_name es)) within) ∙ sym (ap (λ b. cond b rest (Err NoFont)) (lt-ltb font (length m.names) l))

      by : (r : Result (ℤ × ℤ) Cause) → started (length m.names) font size h v ≡ r → called (rank_meaning m es) font size code h v ≡ called m font size code h v
      by (Err k) e = called-fault (rank_meaning m es) font size code h v k (checks ∙ e) ∙ sym (called-fault m font size code h v k e)
      by (Ok p) e = called_runs (rank_meaning m es) font size code h v p (checks ∙ e) ∙ cond-true _ _ _ (lt-ltb font (length m.names) l) ∙ sym (called_runs m font size code h v p e)

  -- a font of a file is expanded
  pub called_above : (e : Entry) (n : ℕ) (p : ℤ × ℤ) → n ≡ length (m.names ++ map entry_name es) → Ok p ≡ started n font size h v → length m.names ≤ font → slice_get es (font - length m.names) ≡ Some e → called (rank_meaning m es) font size code h v ≡ expanded m e.font e.file (record { font = font; size = size; code = code; h = h; v = v })
  called_above e n p all s l is =
      called_runs (rank_meaning m es) font size code h v p (ap (λ k. started k font size h v) (sym all) ∙ sym s)
      ∙ cond-false _ _ _ (le-ltb font (length m.names) l)
      ∙ ap (λ o. file_outcome m o (record { font = font; size = size; code = code; h = h; v = v })) is

  pub fails-here : (n : ℕ) (k : Cause) → n ≡ length (m.names ++ map entry_name es) → Err k ≡ started n font size h v → called (rank_meaning m es) font size code h v ≡ faulty k
  fails-here n k all s = called-fault (rank_meaning m es) font size code h v k (ap (λ x. started x font size h v) (sym all) ∙ sym s)

pub nth_map : {A B : Type 0} (f : A → B) (xs : List A) (k : ℕ) (x : A) → k < length xs → x ≡ get_or xs k x → slice_get (map f xs) k ≡ Some (f x)
nth_map f [] k x l e = absurd (omega arith)
nth_map f (y ∷ xs) zero x l e = ap (λ z. Some (f z)) (sym e)
nth_map f (y ∷ xs) (suc k) x l e = nth_map f xs k x (omega arith) e
