-- The first entry of a table that has a key.
use Rattle.std.specs.Prelude.{ℕ, suc, Bool, cond, List, [], ◌∷◌, Some, None, Option}
use Rattle.std.specs.Option.{option_map}

-- the index of the first entry that passes
abbrev pub first_match : {A : Type 0} → (A → Bool) → List A → Option ℕ
first_match p [] = None
first_match p (x ∷ xs) = cond (p x) (Some 0) (option_map suc (first_match p xs))
