-- Faces by name, and one face more. Assumes nothing.
use Rattle.std.proofs.Common.{◌≡◌, ℕ, List, [], ◌∷◌, ◌++◌, map, length, None, sym, refl, ap, ◌∙◌, subst}
use Rattle.std.proofs.lemmas.List.{length-map}
use Rattle.std.specs.Str.{bytes_eq}
use Rattle.numbers.specs.Match.{first_match}
use Rattle.numbers.proofs.Seek.{match_map}
use Rattle.shelf.specs.Names.{Apart, found_in}
use Rattle.shelf.specs.Spelling.{spelled}
use Rattle.shelf.specs.Finding.{apart_push}
use Rattle.tfm.specs.declared.faces.TfmFace.{TfmFace}
use Rattle.tfm.specs.Meaning.{outline_name}
use Rattle.tfm.specs.Outlines.{outline_of}
use Rattle.tfm.specs.Unlike.{face_names, Unlike}

pub found-face : (fs : List TfmFace) (name : List ℕ) → first_match (λ f. bytes_eq (spelled f.name) name) fs ≡ found_in (face_names fs) name
unfolding found_in
found-face fs name = sym (match_map (λ n. bytes_eq n name) outline_name (map outline_of fs) ∙ match_map (λ o. bytes_eq o.name name) outline_of fs)

pub length-face_names : (fs : List TfmFace) → length (face_names fs) ≡ length fs
length-face_names fs = length-map (map outline_of fs) outline_name ∙ length-map fs outline_of

-- the names, with one face more
pub names-push : (fs : List TfmFace) (f : TfmFace) → face_names (fs ++ f ∷ []) ≡ face_names fs ++ spelled f.name ∷ []
names-push [] f = refl
names-push (g ∷ fs) f = ap (λ ns. spelled g.name ∷ ns) (names-push fs f)

-- the outlines, with one face more
pub outlines_push : (fs : List TfmFace) (f : TfmFace) → map outline_of (fs ++ f ∷ []) ≡ map outline_of fs ++ outline_of f ∷ []
outlines_push [] f = refl
outlines_push (g ∷ fs) f = ap (λ os. outline_of g ∷ os) (outlines_push fs f)

pub unlike-push : (fs : List TfmFace) (f : TfmFace) → Unlike fs → found_in (face_names fs) (spelled f.name) ≡ None → Unlike (fs ++ f ∷ [])
unlike-push fs f u e = subst Apart (sym (names-push fs f)) (apart_push (face_names fs) (spelled f.name) u e)
