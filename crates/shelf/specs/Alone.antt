-- The faces of a shelf as a shelf of their own: font k is face k.
use Rattle.std.specs.Prelude.{ℕ, Bool, false, List, map, Some, None, Option}
use Rattle.std.specs.Str.{bytes_eq}
use Rattle.std.specs.List.{slice_get}
use Rattle.shelf.specs.Meaning.{Meaning, FaceMeaning, Facts, width_in, face_outcome}

abbrev pub name_of : FaceMeaning → List ℕ
name_of f = f.facts.name

-- what is told of a face has this name
abbrev pub is_called : Option Facts → List ℕ → Bool
is_called (Some f) name = bytes_eq f.name name
is_called None name = false

abbrev pub faces_alone : Meaning → Meaning
faces_alone m =
    record {
      names = map name_of m.faces;
      faces = m.faces;
      outcome = λ k size code h v. face_outcome k (width_in (slice_get m.faces k) size code) size code h v;
    }
