-- What a shelf keeps of a face: what its file states, and where in the shelf's bytes its tables stand.
use Rattle.std.specs.Prelude.{ℕ, ◌+◌, List}
use Rattle.shelf.specs.Spelling.{spelled}
use Rattle.tfm.specs.Files.{bc, codes, characters, widths, checksum, design}
use Rattle.tfm.specs.declared.faces.TfmFace.{TfmFace}

pub record Outline : Type 0 where
  pub name : List ℕ
  pub checksum : ℕ
  pub design : ℕ
  pub first : ℕ
  pub count : ℕ
  pub characters : ℕ
  pub widths : ℕ

-- the outline of a file that stands at a place, under a name
abbrev pub outlined : List ℕ → ℕ → List ℕ → Outline
outlined name place f =
    record {
      name = name;
      checksum = checksum f;
      design = design f;
      first = bc f;
      count = codes f;
      characters = place + characters f;
      widths = place + widths f;
    }

abbrev pub outline_of : TfmFace → Outline
outline_of f =
    record {
      name = spelled f.name;
      checksum = f.checksum;
      design = f.design;
      first = f.first;
      count = f.count;
      characters = f.characters;
      widths = f.widths;
    }
