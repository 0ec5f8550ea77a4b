-- What a call leaves in fresh lists, and what of it is handed on. Assumes nothing.
use Rattle.std.proofs.Common.{◌≡◌, ℕ, zero, suc, false, List, [], ◌∷◌, map, length, take, replicate, refl, ap, ◌∙◌, one-add, arith}
use Rattle.std.specs.List.{AllByRecursion}
use Rattle.shelf.specs.declared.marks.Link.{Link}
use Rattle.shelf.specs.declared.marks.Mark.{Mark}
use Rattle.shelf.specs.declared.marks.Mark.TheVariants.{Glyph, Rule}
use Rattle.shelf.specs.Answers.{overlay}
use Rattle.shelf.specs.Laws.{GoodMark}
use Rattle.shelf.specs.Meaning.{FaceMeaning}
use Rattle.fulatzebi.specs.declared.records.LinkRecord.{LinkRecord}
use Rattle.fulatzebi.specs.Records.{link_record}
use Rattle.fulatzebi.specs.Served.{is_filler, made, mark_filler}

-- no shelf makes a filler
abbrev pub Real : List Mark → Type 0
Real ms = AllByRecursion (λ x. is_filler x ≡ false) ms

real_mark : (fs : List FaceMeaning) (x : Mark) → GoodMark fs x → is_filler x ≡ false
real_mark fs (Glyph face size code h v) g = refl
real_mark fs (Rule zero width h v) g = absurd (omega (arith, g.2.0))
real_mark fs (Rule (suc n) width h v) g = grind arith

pub real_marks : (fs : List FaceMeaning) (ms : List Mark) → AllByRecursion (GoodMark fs) ms → Real ms
real_marks fs [] g = tt
real_marks fs (x ∷ ms) g = (real_mark fs x g.0, real_marks fs ms g.1)

made_more : (x : Mark) (ms : List Mark) → is_filler x ≡ false → made (x ∷ ms) ≡ x ∷ made ms
made_more x ms e = rw (e, one-add) refl

-- the marks of a call are those before the first filler
pub made_fresh : (ms : List Mark) (n : ℕ) → Real ms → made (overlay ms (replicate n mark_filler)) ≡ take n ms
made_fresh [] zero r = refl
made_fresh [] (suc n) r = refl
made_fresh (x ∷ ms) zero r = refl
made_fresh (x ∷ ms) (suc n) r = made_more x (overlay ms (replicate n mark_filler)) r.0 ∙ ap (λ zs. x ∷ zs) (made_fresh ms n r.1)

-- a chain that was written over the front of a list as long as the caller's is handed on whole
pub linked_back : (ch : List Link) (links : List LinkRecord) (chain : List Link) → length chain ≡ length links → overlay (map link_record (take (length ch) (overlay ch chain))) links ≡ overlay (map link_record ch) links
linked_back [] links chain h = refl
linked_back (l ∷ ch) [] [] h = refl
linked_back (l ∷ ch) [] (y ∷ chain) h = absurd (omega (arith, h))
linked_back (l ∷ ch) (x ∷ links) [] h = absurd (omega (arith, h))
linked_back (l ∷ ch) (x ∷ links) (y ∷ chain) h = ap (λ zs. link_record l ∷ zs) (linked_back ch links chain (omega (arith, h)))
