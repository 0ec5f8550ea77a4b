-- The name that is told of a face has at most 63 bytes. Assumes nothing.
use Rattle.std.proofs.Common.{◌≡◌, ℕ, ◌<◌, [], length, Some, None, Option, subst, refl, arith}
use Rattle.std.specs.List.{slice_get}
use Rattle.std.proofs.ByRecursion.{All-get_or}
use Rattle.shelf.specs.Finding.{found_within, found_bears}
use Rattle.shelf.specs.Laws.{Lawful}
use Rattle.shelf.specs.Meaning.{Meaning, FaceMeaning, facts_of}
use Rattle.shelf.specs.Names.{GoodName}
use Rattle.std.specs.Option.{option_map}
use Rattle.copies.specs.Marks.{facts_or, faces_of}

good-name : (m : Meaning) (k : ℕ) (f : FaceMeaning) → Lawful m → slice_get m.faces k ≡ Some f → GoodName f.facts.name
good-name m k f law e =
    let g = law.good-faces k f e in
    subst GoodName (found_bears m.names f.facts.name g.font g.font-is) (All-get_or GoodName m.names g.font [] (found_within m.names f.facts.name g.font g.font-is) law.good-names)

pub short_name : (m : Meaning) (k : ℕ) → Lawful m → length (faces_of m k).name < 64
short_name m k law = by (slice_get m.faces k) (λ f e. (good-name m k f law e).1)
  where
    by : (o : Option FaceMeaning) → ((f : FaceMeaning) → o ≡ Some f → length f.facts.name < 64) → length (facts_or (option_map facts_of o)).name < 64
    by None h = omega arith
    by (Some f) h = h f refl
