-- No name twice among faces.
use Rattle.std.specs.Prelude.{ℕ, List, map}
use Rattle.shelf.specs.Names.{Apart}
use Rattle.tfm.specs.Meaning.{outline_name}
use Rattle.tfm.specs.Outlines.{outline_of}
use Rattle.tfm.specs.declared.faces.TfmFace.{TfmFace}

abbrev pub face_names : List TfmFace → List (List ℕ)
face_names fs = map outline_name (map outline_of fs)

abbrev pub Unlike : List TfmFace → Type 0
Unlike fs = Apart (face_names fs)
