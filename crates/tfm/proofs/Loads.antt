-- Entries read one after the other. Assumes nothing.
use Rattle.std.proofs.Common.{◌≡◌, ℕ, ◌+◌, ◌<◌, ◌≤◌, List, [], ◌∷◌, ◌++◌, map, length, get_or, drop, None, Ok, Err, Result, sym, refl, ap, ◌∙◌, arith, length-append}
use Rattle.std.proofs.lemmas.List.{drop_more, drop_all}
use Rattle.shelf.specs.declared.refusals.Refusal.{Refusal}
use Rattle.shelf.specs.Names.{found_in}
use Rattle.shelf.specs.Spelling.{spelled}
use Rattle.tfm.specs.declared.entries.Entry.{Entry}
use Rattle.tfm.specs.declared.faces.TfmFace.{TfmFace}
use Rattle.tfm.specs.Making.{entered, entered_from, joined}
use Rattle.tfm.specs.Outlines.{Outline, outline_of}
use Rattle.tfm.specs.Listing.{Faces}
use Rattle.tfm.specs.Unlike.{face_names, Unlike}
use Rattle.tfm.proofs.Names.{outlines_push, unlike-push}

-- k entries are read, each to a face, and there is room for the rest
pub record SoFar (bytes : List ℕ) (es : List Entry) (k : ℕ) (fs : List TfmFace) (cap : ℕ) : Type 0 where
  pub count : length fs ≡ k
  pub room : length es ≤ cap
  pub unlike : Unlike fs
  pub read : entered_from bytes [] 0 es ≡ entered_from bytes (map outline_of fs) k (drop k es)

module _ (bytes : List ℕ) (es : List Entry) where
  -- before the first entry
  pub nothing_yet : (fs : List TfmFace) (cap : ℕ) → fs ≡ [] → length es ≤ cap → SoFar bytes es 0 fs cap
  nothing_yet fs cap e h = rw e (record { count = refl; room = h; unlike = λ i j l q. absurd (omega (arith, l.1)); read = refl })

  -- an entry is read after those before it
  module _ (k : ℕ) (d : Entry) (fs seen : List TfmFace) (cap : ℕ) (l : k < length es) (s : SoFar bytes es k fs cap) (is : seen ≡ fs) where
    onward : Result Outline Refusal → Result (List Outline) Refusal
    onward r = joined (map outline_of fs) r (λ more. entered_from bytes more (k + 1) (drop (k + 1) es))

    next : (r : Result Outline Refusal) → r ≡ entered bytes (map outline_of seen) k (get_or es k d) → entered_from bytes [] 0 es ≡ onward r
    unfolding entered_from onward
    next r o =
        s.read
        ∙ ap (entered_from bytes (map outline_of fs) k) (drop_more es k d l)
        ∙ ap onward (ap (λ x. entered bytes (map outline_of x) k (get_or es k d)) (sym is) ∙ sym o)

    pub one_more : (f : TfmFace) (fs' : List TfmFace) (cap' : ℕ) → Ok (outline_of f) ≡ entered bytes (map outline_of seen) k (get_or es k d) → found_in (face_names seen) (spelled f.name) ≡ None → fs' ≡ fs ++ f ∷ [] → cap' ≡ cap → SoFar bytes es (k + 1) fs' cap'
    unfolding onward
    one_more f fs' cap' o fresh more same =
        rw (more, same)
        (record {
          count = length-append fs (f ∷ []) ∙ ap (λ n. n + 1) s.count;
          room = s.room;
          unlike = unlike-push fs f s.unlike (ap (λ x. found_in (face_names x) (spelled f.name)) (sym is) ∙ fresh);
          read = next (Ok (outline_of f)) o ∙ ap (λ os. entered_from bytes os (k + 1) (drop (k + 1) es)) (sym (outlines_push fs f));
        })

    pub refused : (r : Refusal) → Err r ≡ entered bytes (map outline_of seen) k (get_or es k d) → Err r ≡ entered_from bytes [] 0 es
    unfolding onward
    refused r o = sym (next (Err r) o)

  pub all_read : (k : ℕ) (fs : List TfmFace) (cap : ℕ) → length es ≤ k → k ≤ 32 → SoFar bytes es k fs cap → Faces bytes es fs
  unfolding entered_from
  all_read k fs cap l few s =
      record {
        read = sym (s.read ∙ ap (entered_from bytes (map outline_of fs) k) (drop_all k es l));
        few = omega (arith, s.count);
        unlike = s.unlike;
      }
