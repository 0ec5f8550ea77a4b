-- Names in one list after another, and the names of a rank's own fonts. Assumes nothing.
use Rattle.std.specs.Prelude.{◌≡◌, ℕ, suc, ◌+◌, ◌-◌, ◌≤◌, Bool, true, false, cond, List, [], ◌∷◌, ◌++◌, map, length, take, Some, None, Option, refl}
use Rattle.std.proofs.Common.{sym, ap, ◌∙◌, arith, length-append}
use Rattle.std.proofs.lemmas.List.{take-map, length-map, length-take, take_all}
use Rattle.std.specs.Option.{option_map}
use Rattle.std.specs.Str.{bytes_eq}
use Rattle.numbers.specs.Match.{first_match}
use Rattle.numbers.proofs.Seek.{match_map}
use Rattle.shelf.specs.Meaning.{Meaning}
use Rattle.shelf.specs.Names.{found_in}
use Rattle.shelf.specs.Spelling.{spelled}
use Rattle.rank.specs.declared.fonts.Font.{Font}
use Rattle.rank.specs.Laid.{font_name}
use Rattle.rank.specs.Entries.{Entry, entry_name, entry_of, entries_of}
use Rattle.rank.specs.Ranks.{fitting}

-- the answer of the first list, or that of the second, n later
abbrev pub joined : Option ℕ → ℕ → Option ℕ → Option ℕ
joined (Some k) n q = Some k
joined None n q = option_map (λ k. n + k) q

later : (n : ℕ) (q : Option ℕ) → option_map suc (option_map (λ k. n + k) q) ≡ option_map (λ k. suc n + k) q
later n None = refl
later n (Some k) = let e : suc (n + k) ≡ suc n + k = omega arith in ap Some e

at_once : (q : Option ℕ) → q ≡ option_map (λ k. 0 + k) q
at_once None = refl
at_once (Some k) = let e : k ≡ 0 + k = omega arith in ap Some e

match_append : {A : Type 0} (p : A → Bool) (xs ys : List A) → first_match p (xs ++ ys) ≡ joined (first_match p xs) (length xs) (first_match p ys)
match_append p [] ys = at_once (first_match p ys)
match_append p (x ∷ xs) ys = ap (λ o. cond (p x) (Some 0) (option_map suc o)) (match_append p xs ys) ∙ go (p x) (first_match p xs)
  where
    go : (b : Bool) (o : Option ℕ) → cond b (Some 0) (option_map suc (joined o (length xs) (first_match p ys))) ≡ joined (cond b (Some 0) (option_map suc o)) (suc (length xs)) (first_match p ys)
    go true o = refl
    go false (Some k) = refl
    go false None = later (length xs) (first_match p ys)

pub found-append : (xs ys : List (List ℕ)) (name : List ℕ) → found_in (xs ++ ys) name ≡ joined (found_in xs name) (length xs) (found_in ys name)
unfolding found_in
found-append xs ys name = match_append (λ n. bytes_eq n name) xs ys

pub found-font : (fs : List Font) (name : List ℕ) → first_match (λ f. bytes_eq (spelled f.name) name) fs ≡ found_in (map font_name fs) name
unfolding found_in
found-font fs name = sym (match_map (λ n. bytes_eq n name) font_name fs)

entry_names : (bs : List ℕ) (fs : List Font) → map entry_name (map (entry_of bs) fs) ≡ map font_name fs
entry_names bs [] = refl
entry_names bs (f ∷ fs) = ap (λ ns. font_name f ∷ ns) (entry_names bs fs)

module _ (m : Meaning) (bs : List ℕ) (fs : List Font) where
  -- the fonts that find room
  pub fits : fitting m (entries_of bs fs) ≡ map (entry_of bs) (take (4096 - length m.names) fs)
  fits = take-map (entry_of bs) (4096 - length m.names) fs

  pub fitting-names : map entry_name (fitting m (entries_of bs fs)) ≡ map font_name (take (4096 - length m.names) fs)
  fitting-names = ap (map entry_name) fits ∙ entry_names bs (take (4096 - length m.names) fs)

  module _ (own : List Font) (is : own ≡ take (4096 - length m.names) fs) where
    own_names : map entry_name (fitting m (entries_of bs fs)) ≡ map font_name own
    own_names = fitting-names ∙ ap (map font_name) (sym is)

    -- the number of fonts in all
    pub in_all_lem : (base : ℕ) → base ≡ length m.names → base + length own ≡ length (m.names ++ map entry_name (fitting m (entries_of bs fs)))
    in_all_lem base b = omega (arith, b, ap length own_names, length-map own font_name, length-append m.names (map entry_name (fitting m (entries_of bs fs))))

    -- the first font of a name, below or above
    pub found_here : (name : List ℕ) (o q : Option ℕ) → o ≡ found_in m.names name → q ≡ found_in (map font_name own) name → joined o (length m.names) q ≡ found_in (m.names ++ map entry_name (fitting m (entries_of bs fs))) name
    found_here name o q e h =
        ap (λ x. joined x (length m.names) q) e ∙ ap (joined (found_in m.names name) (length m.names)) (h ∙ ap (λ ns. found_in ns name) (sym own_names)) ∙ sym (found-append m.names (map entry_name (fitting m (entries_of bs fs))) name)

pub fitting-all : (m : Meaning) (es : List Entry) → length m.names + length es ≤ 4096 → fitting m es ≡ es
fitting-all m es h = take_all (4096 - length m.names) es (omega arith)

pub fitting-few : {X : Type 0} (n : ℕ) (xs : List X) → n ≤ 4096 → n + length (take (4096 - n) xs) ≤ 4096
fitting-few n xs h = omega (arith, length-take (4096 - n) xs)
