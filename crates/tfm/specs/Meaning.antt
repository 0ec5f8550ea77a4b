-- What a TFM shelf means: font k is face k, and makes one glyph.
use Rattle.std.specs.Prelude.{ℕ, List, map}
use Rattle.std.specs.List.{slice_get}
use Rattle.shelf.specs.Meaning.{Meaning, FaceMeaning, face_outcome, width_in}
use Rattle.tfm.specs.Outlines.{Outline}
use Rattle.tfm.specs.Widths.{width_of}

abbrev pub face_of : List ℕ → Outline → FaceMeaning
face_of bytes o =
    record {
      facts = record { name = o.name; checksum = o.checksum; design = o.design };
      width_at = λ size code. width_of bytes o size code;
    }

abbrev pub outline_name : Outline → List ℕ
outline_name o = o.name

abbrev pub tfm_meaning : List ℕ → List Outline → Meaning
tfm_meaning bytes os =
    record {
      names = map outline_name os;
      faces = map (face_of bytes) os;
      outcome = λ k size code h v. face_outcome k (width_in (slice_get (map (face_of bytes) os) k) size code) size code h v;
    }
