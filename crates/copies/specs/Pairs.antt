-- The pairs of a copy: a face at a size, numbered from 0 by first use, each with the place of its definition.
use Rattle.std.specs.Prelude.{ℕ, Bool, ◌&&◌, List, [], ◌∷◌, ◌++◌, length, Some, None, Option, ◌==◌}
use Rattle.std.specs.Option.{unwrap_or}
use Rattle.numbers.specs.Match.{first_match}
use Rattle.copies.specs.declared.pairs.Pair.{Pair}

-- a pair has this face and this size
abbrev pub is_pair : Pair → ℕ × ℕ → Bool
is_pair p k = p.face == k.0 && p.size == k.1

-- the number of the pair of a face and a size; none where it is new
unfoldable pub pair_by : List Pair → ℕ → ℕ → Option ℕ
pair_by ps face size = first_match (λ p. is_pair p (face, size)) ps

-- the number that a pair has, or takes where it is new
abbrev pub numbered : List Pair → Option ℕ → ℕ
numbered ps o = unwrap_or o (length ps)

-- the pairs with this one, where it is new
abbrev pub entered : List Pair → Option ℕ → Pair → List Pair
entered ps (Some n) p = ps
entered ps None p = ps ++ (p ∷ [])
