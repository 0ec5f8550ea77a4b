-- The faces read from entries, as the code keeps them.
use Rattle.std.specs.Prelude.{◌≡◌, ℕ, ◌≤◌, List, [], map, length, Ok, Err, vec_items, Result, Vec}
use Rattle.std.specs.declared.alloc.Global.{Global}
use Rattle.shelf.specs.declared.refusals.Refusal.{Refusal}
use Rattle.tfm.specs.Making.{entered_from}
use Rattle.tfm.specs.Outlines.{Outline, outline_of}
use Rattle.tfm.specs.Unlike.{Unlike}
use Rattle.tfm.specs.declared.entries.Entry.{Entry}
use Rattle.tfm.specs.declared.entries.NotMade.{NotMade}
use Rattle.tfm.specs.declared.entries.NotMade.TheVariants.{Refused, NoMemory}
use Rattle.tfm.specs.declared.faces.TfmFace.{TfmFace}

abbrev pub outline_in : Result TfmFace Refusal → Result Outline Refusal
outline_in (Ok f) = Ok (outline_of f)
outline_in (Err e) = Err e

-- the faces of all entries
pub record Faces (bytes : List ℕ) (es : List Entry) (fs : List TfmFace) : Type 0 where
  pub read : Ok (map outline_of fs) ≡ entered_from bytes [] 0 es
  pub few : length fs ≤ 32
  pub unlike : Unlike fs

abbrev pub Listed : List ℕ → List Entry → Result (Vec TfmFace Global) NotMade → Type 0
Listed bytes es (Ok v) = Faces bytes es (vec_items v)
Listed bytes es (Err (Refused e)) = Err e ≡ entered_from bytes [] 0 es
Listed bytes es (Err (NoMemory e)) = Unit {0}
