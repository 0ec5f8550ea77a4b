-- Marks that were written are read again: a move, a definition, a selection, a glyph and a rule, and then all of a page's. Assumes nothing.
use Rattle.std.proofs.Common.{◌≡◌, ℕ, ◌+◌, ◌<◌, ◌≤◌, Bool, true, false, cond, eqb, List, [], ◌∷◌, ◌++◌, map, length, drop, ℤ, pos, ◌-ℤ◌, nat_abs, is_some, Some, None, Ok, Err, Option, Result, sym, refl, ap, ◌∙◌, subst, arith}
use Rattle.std.specs.List.{AllByRecursion, slice_get}
use Rattle.std.proofs.ByRecursion.{All-get_or}
use Rattle.std.proofs.lemmas.Option.{slice_get_within}
use Rattle.std.proofs.lemmas.Int.{ints}
use Rattle.std.proofs.lemmas.Bool.{eqb-true, lt-ltb}
use Rattle.numbers.specs.Bytes.{digits, complement, signed_fits}
use Rattle.numbers.specs.Lengths.{in_range}
use Rattle.shelf.specs.declared.marks.Mark.{Mark}
use Rattle.shelf.specs.declared.marks.Mark.TheVariants.{Glyph, Rule}
use Rattle.shelf.specs.declared.refusals.Cause.{Cause}
use Rattle.shelf.specs.Alone.{name_of, faces_alone}
use Rattle.shelf.specs.Laws.{GoodMark, Lawful}
use Rattle.shelf.specs.Meaning.{Meaning, Facts, FaceMeaning, width_in, called}
use Rattle.shelf.specs.Names.{GoodName}
use Rattle.shelf.specs.Outcomes.{well, ends}
use Rattle.shelf.specs.FaceLaws.{named}
use Rattle.shelf.specs.Finding.{found_within, found_bears}
use Rattle.commands.specs.Commands.{Cmd, put, put_rule, right, down, fnt, fnt_def, command_at}
use Rattle.machine.specs.declared.registers.Chosen.{Chosen}
use Rattle.machine.specs.Steps.{World, State, go, exec}
use Rattle.machine.specs.Runs.{run_from}
use Rattle.copies.specs.declared.pairs.Pair.{Pair}
use Rattle.copies.specs.Pairs.{pair_by, numbered, entered}
use Rattle.copies.specs.Marks.{move_width, move_bytes, define_bytes, faces_of, Pen, mark_h, mark_v, moved_to, is_last, selecting, font_bytes, shape_bytes, mark_bytes, pen_after, marks_bytes, pen_after_all}
use Rattle.readback.specs.Reading.{Selects, placed}
use Rattle.readback.proofs.Commands.{Fields, defined_by, right-at, down-at, select_at, put-at, rule_at, define_at, length_define}
use Rattle.readback.proofs.Leading.{Leads, command_leads, nothing-leads, then_leads, end-leads}
use Rattle.readback.proofs.Pairs.{GoodPair, face-is_there, pair-numbered, alike_font, grown_keeps, marks-pairs}

pub some_there : {X : Type 0} (o : Option X) → is_some o ≡ true → (x : X) × (o ≡ Some x)
some_there (Some x) e = (x, refl)
some_there None e = cc

-- the width of a move
fits_width : (z : ℤ) → signed_fits 4 z ≡ true → (0 < move_width z) × (move_width z < 5) × (signed_fits (move_width z) z ≡ true)
fits_width z four = grind arith

-- two positions are less than 2^31 apart
apart_fits : (a h : ℤ) → in_range a ≡ true → in_range h ≡ true → signed_fits 4 (a -ℤ h) ≡ true
apart_fits a h p q = grind (arith, ints)

no_move : (a h : ℤ) → nat_abs (a -ℤ h) ≡ 0 → h ≡ a
no_move a h e = omega (arith, ints)

-- the font that a page's last selected number selects
abbrev pub font_of : Result Chosen Cause → Option Chosen
font_of (Ok f) = Some f
font_of (Err k) = None

abbrev pub pen_font : World → Option ℕ → Option Chosen
pen_font u None = None
pen_font u (Some n) = font_of (u.choose n)

-- the state in which the bytes up to here are read
abbrev pub pen_state : World → Pen → State
pen_state u pen = placed pen.h pen.v (pen_font u pen.last)

-- a glyph over the faces alone
face-outcome : (m : Meaning) (face size code : ℕ) (h v w : ℤ) → GoodMark m.faces (Glyph face size code h v) → face < length (map name_of m.faces) → width_in (slice_get m.faces face) size code ≡ Some w → called (faces_alone m) face size code h v ≡ ends (Glyph face size code h v ∷ []) (well w)
unfolding called
face-outcome m face size code h v w good k e = grind arith

face-called : (m : Meaning) (face size code : ℕ) (h v : ℤ) → GoodMark m.faces (Glyph face size code h v) → (w : ℤ) × (called (faces_alone m) face size code h v ≡ ends (Glyph face size code h v ∷ []) (well w))
face-called m face size code h v good =
    let f = some_there (slice_get m.faces face) (face-is_there (slice_get m.faces face) size code good.4) in
    let w = some_there (width_in (slice_get m.faces face) size code) good.4 in
    (w.0, face-outcome m face size code h v w.0 good (named m.faces face f.0 [] f.1).0 w.1)

-- what is told of a face that is there
pub facts_are : (m : Meaning) (k : ℕ) (f : FaceMeaning) → slice_get m.faces k ≡ Some f → faces_of m k ≡ f.facts
facts_are m k f e = rw e

pub face-name : (m : Meaning) (k : ℕ) (f : FaceMeaning) → Lawful m → slice_get m.faces k ≡ Some f → GoodName f.facts.name
face-name m k f law e =
    let g = law.good-faces k f e in
    let within = found_within m.names f.facts.name g.font g.font-is in
    subst GoodName (found_bears m.names f.facts.name g.font g.font-is) (All-get_or GoodName m.names g.font [] within law.good-names)

-- the definition of a good pair fits its bytes
pub pair_fields : (m : Meaning) (p : Pair) → Lawful m → GoodPair m p → (n : ℕ) → n < 64 → Fields n p.size (faces_of m p.face)
pair_fields m p law good n few =
    let f = some_there (slice_get m.faces p.face) good.1 in
    let facts = (law.good-faces p.face f.0 f.1).good-facts in
    let name = face-name m p.face f.0 law f.1 in
    let size : p.size < 134217728 = grind (arith, good.0) in
    subst (Fields n p.size) (sym (facts_are m p.face f.0 f.1))
    (record {
      number_fits = omega arith;
      checksum-fits = facts.checksum-fits;
      size_fits = omega arith;
      design-fits = omega (arith, facts.design-most);
      name-fits = omega (arith, name);
    })

module _ (u : World) (s : List ℕ) where
  -- a move: nothing, or its one command
  move_leads : (byte : ℕ) (z : ℤ) (cmd : Cmd) (st st' : State) → (nat_abs z ≡ 0 → st ≡ st') → ((at : ℕ) (rest : List ℕ) → drop at s ≡ (byte + move_width z) ∷ (digits (move_width z) (complement (move_width z) z) ++ rest) → command_at s at ≡ Some (cmd, 1 + move_width z)) → exec u cmd st ≡ ends [] (well (go st')) → Leads u s (move_bytes byte z) st [] st'
  unfolding move_bytes
  move_leads byte z cmd st st' same reads steps = by (eqb (nat_abs z) 0) refl
    where
      bs : List ℕ
      bs = (byte + move_width z) ∷ digits (move_width z) (complement (move_width z) z)

      long : 1 + move_width z ≡ length bs
      long = grind arith

      by : (b : Bool) → eqb (nat_abs z) 0 ≡ b → Leads u s (cond b [] bs) st [] st'
      by true e = grind arith
      by false e = command_leads u s bs st cmd [] st' (omega (arith, long)) (λ at rest p. reads at rest p ∙ ap (λ k. Some (cmd, k)) long) steps

  module _ (m : Meaning) (ps : List Pair) (on : Selects u m ps) where
    right-step : (h v a : ℤ) (o : Option Chosen) → in_range a ≡ true → exec u (right (a -ℤ h)) (placed h v o) ≡ ends [] (well (go (placed a v o)))
    unfolding exec
    right-step h v a o r = grind arith

    down_step : (h v a : ℤ) (o : Option Chosen) → in_range a ≡ true → exec u (down (a -ℤ v)) (placed h v o) ≡ ends [] (well (go (placed h a o)))
    unfolding exec
    down_step h v a o r = grind arith

    right-leads : (h v a : ℤ) (o : Option Chosen) → in_range h ≡ true → in_range a ≡ true → Leads u s (move_bytes 142 (a -ℤ h)) (placed h v o) [] (placed a v o)
    right-leads h v a o p r =
        let z = a -ℤ h in
        let w = fits_width z (apart_fits a h r p) in
        move_leads 142 z (right z) (placed h v o) (placed a v o) (λ e. ap (λ x. placed x v o) (no_move a h e)) (λ at rest e. right-at s at rest (move_width z) z e w.0 w.1 w.2) (right-step h v a o r)

    down-leads : (h v a : ℤ) (o : Option Chosen) → in_range v ≡ true → in_range a ≡ true → Leads u s (move_bytes 156 (a -ℤ v)) (placed h v o) [] (placed h a o)
    down-leads h v a o p r =
        let z = a -ℤ v in
        let w = fits_width z (apart_fits a v r p) in
        move_leads 156 z (down z) (placed h v o) (placed h a o) (λ e. ap (λ x. placed h x o) (no_move a v e)) (λ at rest e. down-at s at rest (move_width z) z e w.0 w.1 w.2) (down_step h v a o r)

    rule_step : (height width : ℕ) (h v : ℤ) (o : Option Chosen) → GoodMark m.faces (Rule height width h v) → exec u (put_rule (pos height) (pos width)) (placed h v o) ≡ ends (Rule height width h v ∷ []) (well (go (placed h v o)))
    unfolding exec
    rule_step height width h v o good = grind arith

    rule_leads : (height width : ℕ) (h v : ℤ) (o : Option Chosen) → GoodMark m.faces (Rule height width h v) → Leads u s (137 ∷ (digits 4 height ++ digits 4 width)) (placed h v o) (Rule height width h v ∷ []) (placed h v o)
    rule_leads height width h v o good =
        command_leads u s (137 ∷ (digits 4 height ++ digits 4 width)) (placed h v o) (put_rule (pos height) (pos width)) (Rule height width h v ∷ []) (placed h v o) (omega arith)
        (λ at rest e. rule_at s at rest height width e good.2.1 good.2.3) (rule_step height width h v o good)

    define_step : (n size : ℕ) (f : Facts) (st : State) → exec u (fnt_def (defined_by n size f)) st ≡ ends [] (well (go st))
    unfolding exec
    define_step n size f st = rw on.page

    define_leads : (n size : ℕ) (f : Facts) (st : State) → Fields n size f → Leads u s (define_bytes n size f) st [] st
    define_leads n size f st fields =
        command_leads u s (define_bytes n size f) st (fnt_def (defined_by n size f)) [] st (omega (arith, length_define n size f))
        (λ at rest e. define_at s at n size f rest e fields) (define_step n size f st)

    select_step : (n : ℕ) (f : Chosen) (h v : ℤ) (o : Option Chosen) → u.choose n ≡ Ok f → exec u (fnt n) (placed h v o) ≡ ends [] (well (go (placed h v (Some f))))
    unfolding exec
    select_step n f h v o e = rw e

    -- a number that is the page's last selected is not selected again
    select_leads : (last : Option ℕ) (n : ℕ) (f : Chosen) (h v : ℤ) → u.choose n ≡ Ok f → n < 64 → Leads u s (selecting last n) (placed h v (pen_font u last)) [] (placed h v (Some f))
    select_leads last n f h v e few = by (is_last last n) refl
      where
        selected : (l : Option ℕ) → is_last l n ≡ true → pen_font u l ≡ Some f
        selected None p = cc
        selected (Some k) p = let q : k ≡ n = eqb-true k n p in ap (λ x. font_of (u.choose x)) q ∙ ap font_of e

        by : (b : Bool) → is_last last n ≡ b → Leads u s (cond b [] ((171 + n) ∷ [])) (placed h v (pen_font u last)) [] (placed h v (Some f))
        by true p = grind arith
        by false p = command_leads u s ((171 + n) ∷ []) (placed h v (pen_font u last)) (fnt n) [] (placed h v (Some f)) (omega arith) (λ at rest q. select_at s at rest n q few) (select_step n f h v (pen_font u last) e)

    put_step : (face size code : ℕ) (h v : ℤ) → GoodMark m.faces (Glyph face size code h v) → exec u (put (pos code)) (placed h v (Some (record { font = face; size = size }))) ≡ ends (Glyph face size code h v ∷ []) (well (go (placed h v (Some (record { font = face; size = size })))))
    unfolding exec
    put_step face size code h v good =
        let w = face-called m face size code h v good in
        rw (lt-ltb code 256 good.3, on.below, w.1)

    put-leads : (face size code : ℕ) (h v : ℤ) → GoodMark m.faces (Glyph face size code h v) → Leads u s (133 ∷ code ∷ []) (placed h v (Some (record { font = face; size = size }))) (Glyph face size code h v ∷ []) (placed h v (Some (record { font = face; size = size })))
    put-leads face size code h v good =
        let st : State = placed h v (Some (record { font = face; size = size })) in
        command_leads u s (133 ∷ code ∷ []) st (put (pos code)) (Glyph face size code h v ∷ []) st (omega arith)
        (λ at rest e. put-at s at rest code e good.3) (put_step face size code h v good)

    -- the selection of a pair; a new one is defined first
    font-leads : (pen : Pen) (o : Option ℕ) (face size : ℕ) (h v : ℤ) → u.choose (numbered pen.pairs o) ≡ Ok (record { font = face; size = size }) → numbered pen.pairs o < 64 → ((n : ℕ) → n < 64 → Fields n size (faces_of m face)) → Leads u s (font_bytes (faces_of m) pen o face size) (placed h v (pen_font u pen.last)) [] (placed h v (Some (record { font = face; size = size })))
    font-leads pen (Some n) face size h v chosen few fields = grind (arith, select_leads)
    font-leads pen None face size h v chosen few fields =
        let n = length pen.pairs in
        let st : State = placed h v (pen_font u pen.last) in
        then_leads u s (define_bytes n size (faces_of m face)) (selecting pen.last n) st st (placed h v (Some (record { font = face; size = size }))) [] []
        (define_leads n size (faces_of m face) st (fields n few)) (select_leads pen.last n (record { font = face; size = size }) h v chosen few)

    module _ (law : Lawful m) (few : length ps ≤ 64) where
      abbrev F : ℕ → Facts
      F = faces_of m

      -- these pairs are pairs of the whole
      abbrev Kept : List Pair → Type 0
      Kept qs = (i : ℕ) (p : Pair) → slice_get qs i ≡ Some p → slice_get ps i ≡ Some p

      shape-leads : (pen : Pen) (x : Mark) → GoodMark m.faces x → Kept (pen_after F pen x).pairs → Leads u s (shape_bytes F pen x) (placed (mark_h x) (mark_v x) (pen_font u pen.last)) (x ∷ []) (pen_state u (pen_after F pen x))
      unfolding pen_after
      shape-leads pen (Rule height width h v) good keeps = rule_leads height width h v (pen_font u pen.last) good
      shape-leads pen (Glyph face size code h v) good keeps =
          let o = pair_by pen.pairs face size in
          let n = numbered pen.pairs o in
          let q : Pair = record { face = face; size = size; place = pen.at + length (moved_to pen (Glyph face size code h v)) } in
          let f : Chosen = record { font = face; size = size } in
          let a = pair-numbered pen.pairs q o refl in
          let is = keeps n a.pair a.is in
          let chosen : u.choose n ≡ Ok f = on.chosen n a.pair is ∙ ap Ok (alike_font (entered pen.pairs o q) n face size a) in
          let within = slice_get_within ps n a.pair is in
          let fields : (k : ℕ) → k < 64 → Fields k size (F face) = pair_fields m q law (good.2, face-is_there (slice_get m.faces face) size code good.4) in
          subst (Leads u s (shape_bytes F pen (Glyph face size code h v)) (placed h v (pen_font u pen.last)) (Glyph face size code h v ∷ [])) (ap (placed h v) (sym (ap font_of chosen)))
          (then_leads u s (font_bytes F pen o face size) (133 ∷ code ∷ []) (placed h v (pen_font u pen.last)) (placed h v (Some f)) (placed h v (Some f)) [] (Glyph face size code h v ∷ [])
          (font-leads pen o face size h v chosen (omega arith) fields) (put-leads face size code h v good))

      mark_place : (x : Mark) → GoodMark m.faces x → (in_range (mark_h x) ≡ true) × (in_range (mark_v x) ≡ true)
      mark_place x good = grind arith

      pen_place : (pen : Pen) (x : Mark) → GoodMark m.faces x → (in_range (pen_after F pen x).h ≡ true) × (in_range (pen_after F pen x).v ≡ true)
      unfolding pen_after
      pen_place pen x good = mark_place x good

      mark_leads : (pen : Pen) (x : Mark) → in_range pen.h ≡ true → in_range pen.v ≡ true → GoodMark m.faces x → Kept (pen_after F pen x).pairs → Leads u s (mark_bytes F pen x) (pen_state u pen) (x ∷ []) (pen_state u (pen_after F pen x))
      unfolding mark_bytes
      mark_leads pen x p q good keeps =
          let o = pen_font u pen.last in
          let at = mark_place x good in
          let across = move_bytes 142 (mark_h x -ℤ pen.h) in
          let under = move_bytes 156 (mark_v x -ℤ pen.v) in
          then_leads u s (across ++ under) (shape_bytes F pen x) (pen_state u pen) (placed (mark_h x) (mark_v x) o) (pen_state u (pen_after F pen x)) [] (x ∷ [])
          (then_leads u s across under (pen_state u pen) (placed (mark_h x) pen.v o) (placed (mark_h x) (mark_v x) o) [] [] (right-leads pen.h pen.v (mark_h x) o p at.0) (down-leads (mark_h x) pen.v (mark_v x) o q at.1))
          (shape-leads pen x good keeps)

      pub marks_lead : (pen : Pen) (ms : List Mark) → in_range pen.h ≡ true → in_range pen.v ≡ true → AllByRecursion (GoodMark m.faces) ms → (pen_after_all F pen ms).pairs ≡ ps → Leads u s (marks_bytes F pen ms) (pen_state u pen) ms (pen_state u (pen_after_all F pen ms))
      unfolding marks_bytes pen_after_all
      marks_lead pen [] p q good all = nothing-leads u s (pen_state u pen)
      marks_lead pen (x ∷ ms) p q good all =
          let next = pen_after F pen x in
          let at = pen_place pen x good.0 in
          let keeps : Kept next.pairs = λ i r e. ap (λ qs. slice_get qs i) (sym all) ∙ grown_keeps (GoodPair m) next.pairs (pen_after_all F next ms).pairs (marks-pairs F m next ms good.1) i r e in
          then_leads u s (mark_bytes F pen x) (marks_bytes F next ms) (pen_state u pen) (pen_state u next) (pen_state u (pen_after_all F next ms)) (x ∷ []) ms
          (mark_leads pen x p q good.0 keeps)
          (marks_lead next ms at.0 at.1 good.1 all)

      -- the marks up to a page's 140
      pub marks-read : (pen : Pen) (ms : List Mark) → in_range pen.h ≡ true → in_range pen.v ≡ true → AllByRecursion (GoodMark m.faces) ms → (pen_after_all F pen ms).pairs ≡ ps → (at : ℕ) (rest : List ℕ) → drop at s ≡ marks_bytes F pen ms ++ (140 ∷ rest) → run_from u s at (pen_state u pen) ≡ ends ms (well tt)
      marks-read pen ms p q good all at rest e = end-leads u s (marks_bytes F pen ms) (pen_state u pen) ms (pen_state u (pen_after_all F pen ms)) (marks_lead pen ms p q good all) on.page refl at rest e
