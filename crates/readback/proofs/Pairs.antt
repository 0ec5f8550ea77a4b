-- The pairs of a copy as it grows: each number keeps its pair, and each new pair is a good one of the bytes written. Assumes nothing.
use Rattle.std.proofs.Common.{◌≡◌, ℕ, zero, suc, ◌+◌, ◌<◌, ◌≤◌, Bool, true, List, [], ◌∷◌, ◌++◌, length, get_or, is_some, Some, None, Option, sym, refl, ap, ◌∙◌, append_assoc, append-nil, arith, length-append}
use Rattle.std.specs.List.{AllByRecursion, slice_get}
use Rattle.std.proofs.ByRecursion.{All-append, All-weaker}
use Rattle.std.proofs.lemmas.Option.{slice_get-get_or}
use Rattle.numbers.specs.Lengths.{good_size}
use Rattle.numbers.proofs.Seek.{match_within, match_passes}
use Rattle.shelf.specs.declared.marks.Mark.{Mark}
use Rattle.shelf.specs.declared.marks.Mark.TheVariants.{Glyph, Rule}
use Rattle.shelf.specs.Laws.{GoodMark}
use Rattle.shelf.specs.Meaning.{Meaning, Facts, FaceMeaning, width_in}
use Rattle.machine.specs.declared.registers.Chosen.{Chosen}
use Rattle.copies.specs.declared.pairs.Pair.{Pair}
use Rattle.copies.specs.Pairs.{is_pair, pair_by, numbered, entered}
use Rattle.copies.specs.Marks.{Pen, mark_bytes, pen_after, marks_bytes, pen_after_all}
use Rattle.readback.specs.Reading.{pair_font}

-- by number
pub nth_front : {X : Type 0} (xs ys : List X) (i : ℕ) (x : X) → slice_get xs i ≡ Some x → slice_get (xs ++ ys) i ≡ Some x
nth_front [] ys i x e = cc
nth_front (y ∷ xs) ys zero x e = e
nth_front (y ∷ xs) ys (suc i) x e = nth_front xs ys i x e

pub nth_new : {X : Type 0} (xs : List X) (x : X) (ys : List X) → slice_get (xs ++ (x ∷ ys)) (length xs) ≡ Some x
nth_new [] x ys = refl
nth_new (y ∷ xs) x ys = nth_new xs x ys

-- a pair of a number, of the same face and size as another
pub record Alike (ps : List Pair) (n face size : ℕ) : Type 0 where
  pub pair : Pair
  pub is : slice_get ps n ≡ Some pair
  pub face-is : pair.face ≡ face
  pub size_is : pair.size ≡ size

pub pair_found : (ps : List Pair) (face size n : ℕ) → pair_by ps face size ≡ Some n → Alike ps n face size
unfolding pair_by
pair_found ps face size n e =
    let d : Pair = record { face = 0; size = 0; place = 0 } in
    let test : Pair → Bool = λ p. is_pair p (face, size) in
    let within = match_within test ps n e in
    let p = get_or ps n d in
    let passes = match_passes test ps d n e in
    record { pair = p; is = slice_get-get_or ps n d within; face-is = grind arith; size_is = grind arith }

-- a pair's number, once it has one
pub pair-numbered : (ps : List Pair) (p : Pair) (o : Option ℕ) → pair_by ps p.face p.size ≡ o → Alike (entered ps o p) (numbered ps o) p.face p.size
pair-numbered ps p (Some n) e = pair_found ps p.face p.size n e
pair-numbered ps p None e = record { pair = p; is = nth_new ps p []; face-is = refl; size_is = refl }

pub alike_font : (ps : List Pair) (n face size : ℕ) (a : Alike ps n face size) → ◌≡◌ {A = Chosen} (pair_font a.pair) (record { font = face; size = size })
alike_font ps n face size a = grind arith

-- a list that grew by good ones
pub record Grown (P : Pair → Type 0) (ps qs : List Pair) : Type 0 where
  pub more : List Pair
  pub is : qs ≡ ps ++ more
  pub each : AllByRecursion P more

pub grown_none : (P : Pair → Type 0) (ps : List Pair) → Grown P ps ps
grown_none P ps = record { more = []; is = sym (append-nil ps); each = tt }

pub grown_more : (P : Pair → Type 0) (ps qs rs : List Pair) → Grown P ps qs → Grown P qs rs → Grown P ps rs
grown_more P ps qs rs a b =
    record {
      more = a.more ++ b.more;
      is = b.is ∙ ap (λ xs. xs ++ b.more) a.is ∙ append_assoc ps a.more b.more;
      each = All-append P a.more b.more a.each b.each;
    }

pub grown_weaker : (P Q : Pair → Type 0) → ((p : Pair) → P p → Q p) → (ps qs : List Pair) → Grown P ps qs → Grown Q ps qs
grown_weaker P Q w ps qs a = record { more = a.more; is = a.is; each = All-weaker P Q w a.more a.each }

pub grown_keeps : (P : Pair → Type 0) (ps qs : List Pair) → Grown P ps qs → (i : ℕ) (p : Pair) → slice_get ps i ≡ Some p → slice_get qs i ≡ Some p
grown_keeps P ps qs a i p e = grind (arith, nth_front)

pub grown_length : (P : Pair → Type 0) (ps qs : List Pair) → Grown P ps qs → length ps ≤ length qs
grown_length P ps qs a = omega (arith, ap length a.is, length-append ps a.more)

pub grown_all : (P : Pair → Type 0) (ps qs : List Pair) → Grown P ps qs → AllByRecursion P ps → AllByRecursion P qs
grown_all P ps qs a b = grind (arith, All-append)

entered_grown : (P : Pair → Type 0) (ps : List Pair) (o : Option ℕ) (p : Pair) → P p → Grown P ps (entered ps o p)
entered_grown P ps (Some n) p h = grown_none P ps
entered_grown P ps None p h = record { more = p ∷ []; is = refl; each = (h, tt) }

-- defined at one of these places
abbrev pub Between : ℕ → ℕ → Pair → Type 0
Between lo hi p = (lo ≤ p.place) × (p.place < hi)

-- a face of the shelf at a size
abbrev pub GoodPair : Meaning → Pair → Type 0
GoodPair m p = (good_size p.size ≡ true) × (is_some (slice_get m.faces p.face) ≡ true)

-- a face that has a width is there
pub face-is_there : (o : Option FaceMeaning) (size code : ℕ) → is_some (width_in o size code) ≡ true → is_some o ≡ true
face-is_there o size code e = grind arith

module _ (F : ℕ → Facts) where
  -- the next byte's place
  pub length-marks : (pen : Pen) (ms : List Mark) → pen.at + length (marks_bytes F pen ms) ≡ (pen_after_all F pen ms).at
  unfolding marks_bytes pen_after_all pen_after
  length-marks pen [] = omega arith
  length-marks pen (m ∷ ms) =
      let r = length-marks (pen_after F pen m) ms in
      omega (arith, r, length-append (mark_bytes F pen m) (marks_bytes F (pen_after F pen m) ms))

  pub at_most : (pen : Pen) (ms : List Mark) → pen.at ≤ (pen_after_all F pen ms).at
  at_most pen ms = omega (arith, length-marks pen ms)

  pen_on : (pen : Pen) (m : Mark) → pen.at ≤ (pen_after F pen m).at
  unfolding pen_after
  pen_on pen m = omega arith

  -- each new pair stands in the bytes that are written
  mark_places : (pen : Pen) (m : Mark) → Grown (Between pen.at (pen_after F pen m).at) pen.pairs (pen_after F pen m).pairs
  unfolding pen_after mark_bytes
  mark_places pen (Rule height width h v) = grown_none _ pen.pairs
  mark_places pen (Glyph face size code h v) = grind (arith, length-append, entered_grown)

  pub marks_places : (pen : Pen) (ms : List Mark) → Grown (Between pen.at (pen_after_all F pen ms).at) pen.pairs (pen_after_all F pen ms).pairs
  unfolding pen_after_all
  marks_places pen [] = grown_none _ pen.pairs
  marks_places pen (m ∷ ms) =
      let next = pen_after F pen m in
      let hi = (pen_after_all F next ms).at in
      let up = at_most next ms in
      let low = pen_on pen m in
      grown_more (Between pen.at hi) pen.pairs next.pairs (pen_after_all F next ms).pairs
      (grown_weaker (Between pen.at next.at) (Between pen.at hi) (λ p b. (b.0, omega (arith, b.1))) pen.pairs next.pairs (mark_places pen m))
      (grown_weaker (Between next.at hi) (Between pen.at hi) (λ p b. (omega (arith, b.0), b.1)) next.pairs (pen_after_all F next ms).pairs (marks_places next ms))

  mark_pairs : (m : Meaning) (pen : Pen) (x : Mark) → GoodMark m.faces x → Grown (GoodPair m) pen.pairs (pen_after F pen x).pairs
  unfolding pen_after
  mark_pairs m pen (Rule height width h v) good = grown_none (GoodPair m) pen.pairs
  mark_pairs m pen (Glyph face size code h v) good = grind (arith, entered_grown, face-is_there)

  -- and is good, as the marks are
  pub marks-pairs : (m : Meaning) (pen : Pen) (ms : List Mark) → AllByRecursion (GoodMark m.faces) ms → Grown (GoodPair m) pen.pairs (pen_after_all F pen ms).pairs
  unfolding pen_after_all
  marks-pairs m pen [] good = grown_none (GoodPair m) pen.pairs
  marks-pairs m pen (x ∷ ms) good =
      let next = pen_after F pen x in
      grown_more (GoodPair m) pen.pairs next.pairs (pen_after_all F next ms).pairs (mark_pairs m pen x good.0) (marks-pairs m next ms good.1)
