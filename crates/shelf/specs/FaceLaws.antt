-- The faces alone are a lawful shelf. Assumes nothing.
use Rattle.std.specs.Prelude.{◌≡◌, ℕ, zero, suc, ◌<◌, true, List, [], ◌∷◌, map, length, get_or, ℤ, Some, None, Ok, Option, Result, ◌≢◌, slice_index_or, refl}
use Rattle.std.proofs.Common.{sym, ap, ◌∙◌, subst, arith}
use Rattle.std.proofs.lemmas.List.{length-map}
use Rattle.std.proofs.ByRecursion.{All-from_get_or, All-get_or}
use Rattle.std.specs.Option.{option_map}
use Rattle.std.specs.List.{slice_get}
use Rattle.numbers.specs.Lengths.{good_size, in_range}
use Rattle.shelf.specs.declared.refusals.Cause.{Cause}
use Rattle.shelf.specs.Names.{GoodName, Distinct, found_in}
use Rattle.shelf.specs.Meaning.{Meaning, FaceMeaning, Facts, facts_of, called, started, face_outcome, width_in}
use Rattle.shelf.specs.Laws.{GoodOutcome, Lawful}
use Rattle.shelf.specs.Alone.{name_of, faces_alone}
use Rattle.shelf.specs.Finding.{found_within, found_bears, found_distinct}
use Rattle.shelf.specs.Served.{called_runs}
use Rattle.shelf.specs.Starting.{passed-other}

-- a face that is told of is there
pub record There (fs : List FaceMeaning) (k : ℕ) : Type 0 where
  pub face : FaceMeaning
  pub is : slice_get fs k ≡ Some face

pub face-told : (fs : List FaceMeaning) (k : ℕ) (t : Facts) → Some t ≡ option_map facts_of (slice_get fs k) → (f : FaceMeaning) × (slice_get fs k ≡ Some f) × (t ≡ f.facts)
face-told fs k t e = by (slice_get fs k) refl e
  where
    by : (o : Option FaceMeaning) → slice_get fs k ≡ o → Some t ≡ option_map facts_of o → (f : FaceMeaning) × (slice_get fs k ≡ Some f) × (t ≡ f.facts)
    by (Some f) p q = (f, p, cc)
    by None p q = absurd (let z : ◌≡◌ {A = ℕ} 0 1 = cc in omega arith)

-- the name of face k is the name of font k
pub named : (fs : List FaceMeaning) (k : ℕ) (f : FaceMeaning) (d : List ℕ) → slice_get fs k ≡ Some f → (k < length (map name_of fs)) × (slice_index_or (map name_of fs) k d ≡ f.facts.name)
named [] k f d e = absurd (let z : ◌≡◌ {A = ℕ} 0 1 = cc in omega arith)
named (x ∷ fs) zero f d e = let q : x ≡ f = cc in (omega arith, ap name_of q)
named (x ∷ fs) (suc k) f d e = let i = named fs k f d e in (omega (arith, i.0), i.1)

pub face_there : (fs : List FaceMeaning) (k : ℕ) → k < length (map name_of fs) → There fs k
face_there [] k h = absurd (omega arith)
face_there (x ∷ fs) zero h = record { face = x; is = refl }
face_there (x ∷ fs) (suc k) h = let a = face_there fs k (omega arith) in record { face = a.face; is = a.is }

pub never-none : (fs : List FaceMeaning) (k : ℕ) → k < length (map name_of fs) → None ≢ option_map facts_of (slice_get fs k)
never-none fs k h e =
    let a = face_there fs k h in
    let q : ◌≡◌ {A = Option Facts} None (Some a.face.facts) = e ∙ ap (option_map facts_of) a.is in
    let z : ◌≡◌ {A = ℕ} 0 1 = cc in
    omega arith

-- the checks over a count of faces are those over the fonts of the faces alone
pub started-alone : (m : Meaning) (n font size : ℕ) (h v : ℤ) (r : Result (ℤ × ℤ) Cause) → n ≡ length m.faces → r ≡ started n font size h v → started (length (map name_of m.faces)) font size h v ≡ r
started-alone m n font size h v r e s = ap (λ k. started k font size h v) (length-map m.faces name_of ∙ sym e) ∙ sym s

module _ (m : Meaning) (law : Lawful m) where
  -- what the font below answers that bears the face's name
  pub alone-called : (k j size code : ℕ) (h v : ℤ) (p : ℤ × ℤ) (f : FaceMeaning) → started (length (map name_of m.faces)) k size h v ≡ Ok p → slice_get m.faces k ≡ Some f → found_in m.names f.facts.name ≡ Some j → called m j size code h v ≡ called (faces_alone m) k size code h v
  alone-called k j size code h v p f s e first =
      let g = law.good-faces k f e in
      let q : Some j ≡ Some g.font = sym first ∙ g.font-is in
      let same : j ≡ g.font = cc in
      let below : started (length m.names) j size h v ≡ Ok p =
      passed-other (length (map name_of m.faces)) k (length m.names) j size h v p (found_within m.names f.facts.name j first) s in
      called_runs m j size code h v p below
      ∙ ap (λ i. m.outcome i size code h v) same
      ∙ g.font-outcome size code h v
      ∙ sym (called_runs (faces_alone m) k size code h v p s ∙ ap (λ o. face_outcome k (width_in o size code) size code h v) e)

  pub alone_distinct : Distinct (map name_of m.faces)
  alone_distinct i j hi hj e =
      let a = face_there m.faces i hi in
      let b = face_there m.faces j hj in
      law.unlike-faces i j a.face b.face a.is b.is (sym (named m.faces i a.face [] a.is).1 ∙ e ∙ (named m.faces j b.face [] b.is).1)

  font_of_lem : (k : ℕ) (f : FaceMeaning) → slice_get m.faces k ≡ Some f → found_in (map name_of m.faces) f.facts.name ≡ Some k
  font_of_lem k f e =
      let n = named m.faces k f [] e in
      ap (found_in (map name_of m.faces)) (sym n.1) ∙ found_distinct (map name_of m.faces) k alone_distinct n.0

  good-name : (k : ℕ) → k < length (map name_of m.faces) → GoodName (slice_index_or (map name_of m.faces) k [])
  good-name k h =
      let a = face_there m.faces k h in
      let g = law.good-faces k a.face a.is in
      let bears : get_or m.names g.font [] ≡ a.face.facts.name = found_bears m.names a.face.facts.name g.font g.font-is in
      subst GoodName (bears ∙ sym (named m.faces k a.face [] a.is).1) (All-get_or GoodName m.names g.font [] (found_within m.names a.face.facts.name g.font g.font-is) law.good-names)

  good : (k size code : ℕ) (h v : ℤ) → k < length (map name_of m.faces) → good_size size ≡ true → in_range h ≡ true → in_range v ≡ true → GoodOutcome (faces_alone m) ((faces_alone m).outcome k size code h v)
  good k size code h v l s a b =
      let t = face_there m.faces k l in
      let g = law.good-faces k t.face t.is in
      let o = subst (GoodOutcome m) (g.font-outcome size code h v) (law.good_outcomes g.font size code h v (found_within m.names t.face.facts.name g.font g.font-is) s a b) in
      subst (λ x. GoodOutcome (faces_alone m) (face_outcome k (width_in x size code) size code h v)) (sym t.is) (by (t.face.width_at size code) o)
    where
      by : (w : Option ℤ) → GoodOutcome m (face_outcome k w size code h v) → GoodOutcome (faces_alone m) (face_outcome k w size code h v)
      by (Some w) o = record { good-marks = o.good-marks; good-ending = o.good-ending }
      by None o = record { good-marks = tt; good-ending = (omega arith, tt) }

  pub alone_lawful : Lawful (faces_alone m)
  alone_lawful =
      let n = length-map m.faces name_of in
      record {
        few = omega (arith, n, law.few-faces, law.few);
        good-names = All-from_get_or GoodName (map name_of m.faces) [] good-name;
        few-faces = omega (arith, n);
        unlike-faces = law.unlike-faces;
        good-faces = λ k f e.
            record {
              good-facts = (law.good-faces k f e).good-facts;
              font = k;
              font-is = font_of_lem k f e;
              font-outcome = λ size code h v. ap (λ o. face_outcome k (width_in o size code) size code h v) e;
            };
        good_outcomes = good;
      }
