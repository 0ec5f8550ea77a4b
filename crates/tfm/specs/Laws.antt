-- A TFM shelf is a lawful shelf. Assumes nothing.
use Rattle.std.specs.Prelude.{◌≡◌, ℕ, zero, suc, ◌+◌, ◌-◌, ◌*◌, ◌<◌, ◌≤◌, Bool, true, false, cond, ◌&&◌, List, [], ◌∷◌, map, length, ℤ, is_some, Some, None, Ok, Err, Option, Result, ◌==◌, nat_le, nat_lt, slice_index, slice_index_or, refl}
use Rattle.std.proofs.Common.{sym, ap, ◌∙◌, subst, arith}
use Rattle.std.proofs.lemmas.List.{length-map, length-take-le}
use Rattle.std.proofs.lemmas.Int.{ints}
use Rattle.std.proofs.lemmas.Bool.{ltb-true, and_parts}
use Rattle.std.specs.List.{AllByRecursion, slice_get}
use Rattle.numbers.specs.Bytes.{number_at}
use Rattle.numbers.specs.FixWords.{scaled}
use Rattle.numbers.specs.Lengths.{good_size, in_range}
use Rattle.numbers.proofs.Scales.{scaled_bound}
use Rattle.shelf.specs.declared.refusals.Cause.{Cause}
use Rattle.shelf.specs.Outcomes.{faulty}
use Rattle.shelf.specs.Alone.{name_of}
use Rattle.shelf.specs.Laws.{GoodFace, GoodFacts, GoodOutcome, Lawful}
use Rattle.shelf.specs.Meaning.{FaceMeaning, called, started, face_outcome, width_in}
use Rattle.shelf.specs.Names.{GoodName, found_in}
use Rattle.shelf.specs.Spelling.{spelled}
use Rattle.shelf.specs.FaceLaws.{named}
use Rattle.shelf.specs.Finding.{apart_distinct, found_distinct}
use Rattle.shelf.specs.Served.{called-fault, called_runs}
use Rattle.shelf.specs.Starting.{passed}
use Rattle.tfm.specs.declared.faces.TfmFace.{TfmFace}
use Rattle.tfm.specs.Meaning.{face_of, outline_name, tfm_meaning}
use Rattle.tfm.specs.Outlines.{Outline, outline_of}
use Rattle.tfm.specs.Unlike.{face_names, Unlike}
use Rattle.tfm.specs.Widths.{scaled_word, by_index, width_of}

-- what a width tells: the code has a word, and it is a scaled fix_word
pub record Wide (o : Outline) (size code : ℕ) (w : ℤ) : Type 0 where
  pub within : code < o.first + o.count
  pub word : ℕ
  pub is : scaled size word ≡ Some w

-- no number where none is
absent : {X : Type 0} (w : ℤ) → ◌≡◌ {A = Option ℤ} None (Some w) → X
absent w q = cc

wide : (bytes : List ℕ) (o : Outline) (size code : ℕ) (w : ℤ) → width_of bytes o size code ≡ Some w → Wide o size code w
wide bytes o size code w e = by (nat_le o.first code && nat_lt code (o.first + o.count)) refl e
  where
    index : ℕ
    index = slice_index bytes (o.characters + 4 * (code - o.first))

    worded : code < o.first + o.count → (n : Option ℕ) → scaled_word size n ≡ Some w → Wide o size code w
    worded l (Some n) q = record { within = l; word = n; is = q }
    worded l None q = absent w q

    indexed : code < o.first + o.count → (b : Bool) → cond b None (scaled_word size (number_at bytes (o.widths + 4 * index) 4)) ≡ Some w → Wide o size code w
    indexed l true q = absent w q
    indexed l false q = worded l (number_at bytes (o.widths + 4 * index) 4) q

    by : (b : Bool) → (nat_le o.first code && nat_lt code (o.first + o.count)) ≡ b → cond b (by_index bytes o size (slice_index bytes (o.characters + 4 * (code - o.first)))) None ≡ Some w → Wide o size code w
    by true p q = indexed (ltb-true code (o.first + o.count) (and_parts (nat_le o.first code) (nat_lt code (o.first + o.count)) p).1) (index == 0) q
    by false p q = absent w q

-- a name has as many bytes as it counts
spelled-length : (f : TfmFace) → length (spelled f.name) ≡ f.name.count
spelled-length f = length-take-le f.name.count f.name.bytes (omega arith)

good-names : (fs : List TfmFace) → AllByRecursion GoodName (face_names fs)
good-names [] = tt
good-names (f ∷ fs) = let n = spelled-length f in ((omega (arith, n), omega (arith, n)), good-names fs)

module _ (bytes : List ℕ) where
  -- a face of the meaning is a face of the shelf
  pub record Kept (fs : List TfmFace) (k : ℕ) (m : FaceMeaning) : Type 0 where
    pub face : TfmFace
    pub is : face_of bytes (outline_of face) ≡ m

  kept : (fs : List TfmFace) (k : ℕ) (m : FaceMeaning) → slice_get (map (face_of bytes) (map outline_of fs)) k ≡ Some m → Kept fs k m
  kept [] k m e = cc
  kept (f ∷ fs) zero m e = record { face = f; is = cc }
  kept (f ∷ fs) (suc k) m e = let i = kept fs k m e in record { face = i.face; is = i.is }

  names_same : (os : List Outline) → map name_of (map (face_of bytes) os) ≡ map outline_name os
  names_same [] = refl
  names_same (o ∷ os) = ap (λ ns. o.name ∷ ns) (names_same os)

  pub face-at : (fs : List TfmFace) (k : ℕ) (f : TfmFace) → k < length fs → f ≡ slice_index_or fs k f → slice_get (map (face_of bytes) (map outline_of fs)) k ≡ Some (face_of bytes (outline_of f))
  face-at [] k f l e = absurd (omega arith)
  face-at (g ∷ fs) zero f l e = ap (λ x. Some (face_of bytes (outline_of x))) (sym e)
  face-at (g ∷ fs) (suc k) f l e = face-at fs k f (omega arith) e

  pub face-past : (fs : List TfmFace) (k : ℕ) → length fs ≤ k → slice_get (map (face_of bytes) (map outline_of fs)) k ≡ None
  face-past [] k l = refl
  face-past (g ∷ fs) zero l = absurd (omega arith)
  face-past (g ∷ fs) (suc k) l = face-past fs k (omega arith)

  -- where the name of face k stands
  place : (fs : List TfmFace) (k : ℕ) (m : FaceMeaning) → slice_get (map (face_of bytes) (map outline_of fs)) k ≡ Some m → (k < length (face_names fs)) × (slice_index_or (face_names fs) k [] ≡ m.facts.name)
  place fs k m e = subst (λ ns. (k < length ns) × (slice_index_or ns k [] ≡ m.facts.name)) (names_same (map outline_of fs)) (named (map (face_of bytes) (map outline_of fs)) k m [] e)

  good-face : (fs : List TfmFace) → Unlike fs → (k : ℕ) (m : FaceMeaning) → slice_get (map (face_of bytes) (map outline_of fs)) k ≡ Some m → GoodFace (tfm_meaning bytes (map outline_of fs)) k m
  good-face fs u k m e =
      let f = kept fs k m e in
      let n = place fs k m e in
      record {
        good-facts = subst (λ x. GoodFacts x.facts) f.is (record { checksum-fits = f.face.small; design-least = f.face.least; design-most = f.face.most });
        font = k;
        font-is = ap (found_in (face_names fs)) (sym n.1) ∙ found_distinct (face_names fs) k (apart_distinct (face_names fs) u) n.0;
        font-outcome = λ size code h v. ap (λ x. face_outcome k (width_in x size code) size code h v) e;
      }

  good-outcome : (fs : List TfmFace) (k size code : ℕ) (h v : ℤ) → good_size size ≡ true → in_range h ≡ true → in_range v ≡ true → GoodOutcome (tfm_meaning bytes (map outline_of fs)) ((tfm_meaning bytes (map outline_of fs)).outcome k size code h v)
  good-outcome fs k size code h v s a b = by (slice_get (map (face_of bytes) (map outline_of fs)) k) refl
    where
      sized : (f : FaceMeaning) → slice_get (map (face_of bytes) (map outline_of fs)) k ≡ Some f → (o : Option ℤ) → f.width_at size code ≡ o → GoodOutcome (tfm_meaning bytes (map outline_of fs)) (face_outcome k o size code h v)
      sized f e None q = record { good-marks = tt; good-ending = (omega arith, tt) }
      sized f e (Some w) q =
          let g = kept fs k f e in
          let t = wide bytes (outline_of g.face) size code w (ap (λ x. x.width_at size code) g.is ∙ q) in
          let c : code < 256 = omega (arith, t.within, g.face.codes) in
          let d = scaled_bound size t.word w t.is in
          record {
            good-marks = ((a, b, s, c, ap is_some (ap (λ x. width_in x size code) e ∙ q)), tt);
            good-ending = (d.0, omega (arith, ints, d.1));
          }

      by : (o : Option FaceMeaning) → slice_get (map (face_of bytes) (map outline_of fs)) k ≡ o → GoodOutcome (tfm_meaning bytes (map outline_of fs)) (face_outcome k (width_in o size code) size code h v)
      by None e = record { good-marks = tt; good-ending = (omega arith, tt) }
      by (Some f) e = sized f e (f.width_at size code) refl

  pub tfm_lawful : (fs : List TfmFace) → length fs ≤ 32 → Unlike fs → Lawful (tfm_meaning bytes (map outline_of fs))
  tfm_lawful fs few u =
      let outlines = length-map fs outline_of in
      let names = length-map (map outline_of fs) outline_name in
      let all = length-map (map outline_of fs) (face_of bytes) in
      record {
        few = omega (arith, outlines, names);
        good-names = good-names fs;
        few-faces = omega (arith, names, all);
        unlike-faces = λ i j f g p q e.
            let a = place fs i f p in
            let b = place fs j g q in
            apart_distinct (face_names fs) u i j a.0 b.0 (a.1 ∙ e ∙ sym b.1);
        good-faces = good-face fs u;
        good_outcomes = λ k size code h v l s a b. good-outcome fs k size code h v s a b;
      }

  -- the checks over a count of faces are those over the names
  started-here : (fs : List TfmFace) (n k size : ℕ) (h v : ℤ) (r : Result (ℤ × ℤ) Cause) → n ≡ length fs → r ≡ started n k size h v → started (length (face_names fs)) k size h v ≡ r
  started-here fs n k size h v r e s = ap (λ x. started x k size h v) (length-map (map outline_of fs) outline_name ∙ length-map fs outline_of ∙ sym e) ∙ sym s

  pub fails-here : (fs : List TfmFace) (n k size code : ℕ) (h v : ℤ) (cause : Cause) → n ≡ length fs → Err cause ≡ started n k size h v → called (tfm_meaning bytes (map outline_of fs)) k size code h v ≡ faulty cause
  fails-here fs n k size code h v cause e s = called-fault (tfm_meaning bytes (map outline_of fs)) k size code h v cause (started-here fs n k size h v (Err cause) e s)

  -- what a call comes to where the checks have passed
  pub called-face : (fs : List TfmFace) (n k size code : ℕ) (h v : ℤ) (p : ℤ × ℤ) (f : TfmFace) (w : Option ℤ) → n ≡ length fs → Ok p ≡ started n k size h v → k < length fs → f ≡ slice_index_or fs k f → w ≡ width_of bytes (outline_of f) size code → called (tfm_meaning bytes (map outline_of fs)) k size code h v ≡ face_outcome k w size code p.0 p.1
  called-face fs n k size code h v p f w e s l is q =
      called_runs (tfm_meaning bytes (map outline_of fs)) k size code h v p (started-here fs n k size h v (Ok p) e s)
      ∙ ap (λ x. face_outcome k (width_in x size code) size code h v) (face-at fs k f l is)
      ∙ ap (λ x. face_outcome k x size code h v) (sym q)
      ∙ ap (λ (x : ℤ × ℤ). face_outcome k w size code x.0 x.1) (sym (passed n k size h v p (sym s)).point)
