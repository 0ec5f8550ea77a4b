-- What adding a file answers, and that a rank keeps its names unlike one another. Assumes nothing.
use Rattle.std.proofs.Common.{◌≡◌, ℕ, ◌+◌, ◌-◌, ◌<◌, ◌≤◌, Bool, true, false, cond, List, [], ◌∷◌, ◌++◌, map, length, Some, None, Ok, Err, sym, refl, ap, ◌∙◌, subst, append_assoc, append-nil, arith, length-append}
use Rattle.std.proofs.lemmas.List.{length-map, map_push, length_push, take_all, length-take}
use Rattle.std.proofs.lemmas.Bool.{cond-true, cond-false}
use Rattle.shelf.specs.declared.refusals.Refusal.{Refusal}
use Rattle.shelf.specs.declared.refusals.Refusal.TheVariants.{ShelfFull, VfName}
use Rattle.shelf.specs.Meaning.{Meaning}
use Rattle.shelf.specs.Names.{Distinct, Apart, found_in}
use Rattle.shelf.specs.Finding.{apart_push, apart_distinct}
use Rattle.vf.specs.Files.{vf_of}
use Rattle.vf.specs.Fonts.{VfFont}
use Rattle.rank.specs.declared.fonts.Font.{Font}
use Rattle.rank.specs.Adding.{added, lacking, free, read_into}
use Rattle.rank.specs.Entries.{Entry, entry_name, entry_of, entries_of, in_all}
use Rattle.rank.specs.Laid.{total, inside}
use Rattle.rank.proofs.Stored.{all_bytes}
use Rattle.rank.specs.Ranks.{rank_of, fitting, RankOk}

pub rank_none : (m : Meaning) → length m.names ≤ 4096 → Distinct m.names → RankOk m []
rank_none m few d = record { few = omega (arith, few); unlike = subst Distinct (sym (append-nil m.names)) d }

distinct_apart : (names : List (List ℕ)) → Distinct names → Apart names
distinct_apart names d i j (l, h) e = let q : i ≡ j = d i j (omega arith) h e in omega arith

-- below 4,096 fonts every file finds room
all_fit : (m : Meaning) (es : List Entry) → length (rank_of m es).names < 4096 → (fitting m es ≡ es) × (length m.names + length es < 4096)
all_fit m es h =
    let a = length-append m.names (map entry_name (fitting m es)) in
    let b = length-map (fitting m es) entry_name in
    let c = length-take (4096 - length m.names) es in
    let k : length m.names + length es < 4096 = omega (arith, a, b, c, h) in
    (take_all (4096 - length m.names) es (omega arith), k)

-- one file more, of a name that none bore
pub rank_push : (m : Meaning) (es es' : List Entry) (e : Entry) → length (rank_of m es).names < 4096 → found_in (rank_of m es).names e.name ≡ None → es' ≡ es ++ e ∷ [] → RankOk m es → RankOk m es'
rank_push m es es' e h none p ok =
    let a = all_fit m es h in
    let free : found_in (m.names ++ map entry_name es) e.name ≡ None = subst (λ xs. found_in (m.names ++ map entry_name xs) e.name ≡ None) a.0 none in
    let q : m.names ++ map entry_name (es ++ e ∷ []) ≡ (m.names ++ map entry_name es) ++ e.name ∷ [] = ap (λ t. m.names ++ t) (map_push entry_name es e) ∙ sym (append_assoc m.names (map entry_name es) (e.name ∷ [])) in
    subst (RankOk m) (sym p)
    (record {
      few = omega (arith, a.1, length_push es e);
      unlike = subst Distinct (sym q) (apart_distinct ((m.names ++ map entry_name es) ++ e.name ∷ []) (apart_push (m.names ++ map entry_name es) e.name (distinct_apart (m.names ++ map entry_name es) ok.unlike) free));
    })

-- the same where a rank is told from the shelf below it, which stays
pub rank_pushed : {S : Type 0} (means : S → Meaning) (b b' : S) (es es' : List Entry) (e : Entry) → length (rank_of (means b) es).names < 4096 → found_in (rank_of (means b) es).names e.name ≡ None → b' ≡ b → es' ≡ es ++ e ∷ [] → RankOk (means b) es → RankOk (means b') es'
rank_pushed means b b' es es' e h none same p ok = subst (λ x. RankOk (means x) es') (sym same) (rank_push (means b) es es' e h none p ok)

name-none : (b : Bool) (x : List ℕ) → None ≡ cond b (Some x) None → b ≡ false
name-none false x e = refl
name-none true x e = absurd (let z : ◌≡◌ {A = ℕ} 0 1 = cc in omega arith)

name-some : (b : Bool) (x y : List ℕ) → Some y ≡ cond b (Some x) None → (b ≡ true) × (y ≡ x)
name-some true x y e = (refl, cc)
name-some false x y e = absurd (let z : ◌≡◌ {A = ℕ} 0 1 = cc in omega arith)

module _ (m : Meaning) (bs : List ℕ) (fs : List Font) (name file : List ℕ) (laid : inside (length bs) fs ≡ true) (whole : total fs ≡ length bs) (r : Bool) (files bytes fonts more : ℕ) (f : files ≡ length fs) (b : bytes ≡ length bs) (n : fonts ≡ length (rank_of m (entries_of bs fs)).names) (k : more ≡ length file) (checked : r ≡ lacking files bytes fonts more) where
  -- the check was that of the files as they were added
  full_is : r ≡ lacking (length (entries_of bs fs)) (in_all (entries_of bs fs)) (length (rank_of m (entries_of bs fs)).names) (length file)
  full_is =
      checked
      ∙ ap (λ x. lacking x bytes fonts more) (f ∙ sym (length-map fs (entry_of bs)))
      ∙ ap (λ x. lacking (length (entries_of bs fs)) x fonts more) (b ∙ sym whole ∙ sym (all_bytes bs fs laid))
      ∙ ap (λ x. lacking (length (entries_of bs fs)) (in_all (entries_of bs fs)) x more) n
      ∙ ap (lacking (length (entries_of bs fs)) (in_all (entries_of bs fs)) (length (rank_of m (entries_of bs fs)).names)) k

  pub no_room : r ≡ true → (entries_of bs fs, Err ShelfFull) ≡ added m (entries_of bs fs) name file
  no_room t = sym (cond-true _ _ _ (sym full_is ∙ t))

  module _ (t : r ≡ false) where
    roomy : added m (entries_of bs fs) name file ≡ cond (free (rank_of m (entries_of bs fs)).names name) (read_into (entries_of bs fs) name file (vf_of m.names file)) (entries_of bs fs, Err VfName)
    roomy = cond-false _ _ _ (sym full_is ∙ t)

    pub no_name : None ≡ cond (free (rank_of m (entries_of bs fs)).names name) (Some name) None → (entries_of bs fs, Err VfName) ≡ added m (entries_of bs fs) name file
    no_name e = sym (roomy ∙ cond-false _ _ _ (name-none (free (rank_of m (entries_of bs fs)).names name) name e))

    module _ (kept : List ℕ) (is : Some kept ≡ cond (free (rank_of m (entries_of bs fs)).names name) (Some name) None) where
      named : added m (entries_of bs fs) name file ≡ read_into (entries_of bs fs) name file (vf_of m.names file)
      named = roomy ∙ cond-true _ _ _ (name-some (free (rank_of m (entries_of bs fs)).names name) name kept is).0

      pub not-read : (e : Refusal) → Err e ≡ vf_of m.names file → (entries_of bs fs, Err e) ≡ added m (entries_of bs fs) name file
      not-read e v = sym (named ∙ ap (read_into (entries_of bs fs) name file) (sym v))

      pub one_more : (font : VfFont) (es' : List Entry) → Ok font ≡ vf_of m.names file → es' ≡ entries_of bs fs ++ record { name = kept; file = file; font = font } ∷ [] → (es', Ok tt) ≡ added m (entries_of bs fs) name file
      one_more font es' v last =
          ap (λ (es : List Entry). (es, Ok tt)) (last ∙ ap (λ (x : List ℕ). entries_of bs fs ++ record { name = x; file = file; font = font } ∷ []) (name-some (free (rank_of m (entries_of bs fs)).names name) name kept is).1)
          ∙ sym (named ∙ ap (read_into (entries_of bs fs) name file) (sym v))
