-- A rank over a lawful shelf is lawful. Assumes nothing.
use Rattle.std.specs.Prelude.{◌≡◌, ℕ, ◌+◌, ◌-◌, ◌<◌, ◌≤◌, Bool, true, false, cond, List, [], ◌∷◌, ◌++◌, map, length, take, ℤ, Some, None, Ok, Err, Option, Result, nat_lt, slice_index_or}
use Rattle.std.proofs.Math.Path.{refl}
use Rattle.std.proofs.Common.{ap, ◌∙◌, subst, length-append}
use native.Mathlib.Omega.{arith}
use Rattle.std.proofs.lemmas.Int.{ints}
use Rattle.std.proofs.ByRecursion.{All-append, All-weaker}
use Rattle.std.proofs.lemmas.List.{length-map, length-take-le}
use Rattle.std.proofs.lemmas.Bool.{cond-true, lt-ltb, ltb-true}
use Rattle.std.specs.List.{AllByRecursion, slice_get}
use Rattle.numbers.specs.FixWords.{scaled}
use Rattle.numbers.specs.Lengths.{good_size, in_range}
use Rattle.numbers.proofs.Scales.{scaled_bound}
use Rattle.shelf.specs.declared.asked.Asked.{Asked}
use Rattle.shelf.specs.declared.marks.Link.{Link}
use Rattle.shelf.specs.declared.refusals.Cause.{Cause}
use Rattle.shelf.specs.declared.refusals.Cause.TheVariants.{NoFont, NoCode, BadSize}
use Rattle.shelf.specs.Answers.{chain_of}
use Rattle.shelf.specs.Laws.{GoodMark, GoodEnding, GoodFace, GoodOutcome, Lawful}
use Rattle.shelf.specs.Meaning.{Meaning, FaceMeaning}
use Rattle.shelf.specs.Names.{GoodName, found_in}
use Rattle.shelf.specs.Outcomes.{Outcome, Ending, well, fault, ends, faulty, onward, link}
use Rattle.shelf.specs.Finding.{found_within}
use Rattle.machine.specs.declared.registers.Chosen.{Chosen}
use Rattle.machine.specs.Runs.{run_from}
use Rattle.machine.specs.Views.{ending_of}
use Rattle.machine.proofs.Good.{Good, good-faulty, good-bind, good-link, good-run}
use Rattle.vf.specs.declared.entries.Packet.{Packet}
use Rattle.vf.specs.Fonts.{VfFont}
use Rattle.expansion.specs.Expanding.{link_of, packet_world, start_at, packet_run, wide_run, expanded_by, expanded}
use Rattle.expansion.specs.Selecting.{first_font}
use Rattle.rank.specs.declared.fonts.Font.{Font}
use Rattle.rank.specs.Laid.{font_name}
use Rattle.rank.specs.Entries.{Entry, entry_name}
use Rattle.rank.specs.Ranks.{rank_meaning, file_outcome}
use Rattle.rank.specs.Named.{found-append, joined}

pub good-font-names : (fs : List Font) → AllByRecursion GoodName (map font_name fs)
good-font-names [] = tt
good-font-names (f ∷ fs) = let n = length-take-le f.name.count f.name.bytes (omega arith) in ((omega (arith, n), omega (arith, n)), good-font-names fs)

module _ (m : Meaning) (law : Lawful m) (fonts : ℕ) (few : length m.names ≤ fonts) (c : Asked) (own : c.font < fonts) where
  good-packet : (f : VfFont) (file : List ℕ) (p : Packet) → Good (Unit {0}) m.faces fonts (packet_run m f file c p)
  good-packet f file p =
      good-bind m.faces fonts (link (link_of c p.start) (ends [] (ending_of (first_font f c.size)))) (λ font. run_from (packet_world m f c) (take (p.start + p.length) file) p.start (start_at c font))
      (good-link m.faces fonts (link_of c p.start) (ends [] (ending_of (first_font f c.size))) own (first (first_font f c.size)))
      (λ font. good-run (packet_world m f c) fonts law few (λ at. own) (take (p.start + p.length) file) 0 p.start (length (take (p.start + p.length) file) - p.start) (start_at c font))
    where
      first : (r : Result (Option Chosen) Cause) → Good (Option Chosen) m.faces fonts (ends [] (ending_of r))
      first (Ok w) = record { marks = tt; chain = (omega arith, tt) }
      first (Err k) = good-faulty m.faces fonts k

  -- its width is that of a scaled fix_word
  ending : (o : Outcome (Unit {0})) (w : ℤ) (n : ℕ) → scaled c.size n ≡ Some w → Good (Unit {0}) m.faces fonts o → (x : Ending (Unit {0})) → o.ending ≡ x → GoodEnding fonts (onward o.marks x (λ u. ends [] (well w))).ending
  ending o w n e g (well u) q = let d = scaled_bound c.size n w e in (d.0, omega (arith, ints, d.1))
  ending o w n e g (fault k ch) q = subst (λ x. (length (chain_of x) ≤ 65535) × AllByRecursion (λ l. l.font < fonts) (chain_of x)) q g.chain

  -- marks of faces below, and an ending of this many fonts
  record Well (o : Outcome ℤ) : Type 0 where
    marks : AllByRecursion (GoodMark m.faces) o.marks
    ending : GoodEnding fonts o.ending

  fails : (k : Cause) → Well (faulty k)
  fails k = record { marks = tt; ending = (omega arith, tt) }

  good-expanded : (f : VfFont) (file : List ℕ) → Well (expanded m f file c)
  unfolding expanded
  good-expanded f file = by (slice_index_or f.packets c.code None)
    where
      wide : (p : Packet) (o : Option ℤ) → scaled c.size p.width ≡ o → Well (wide_run m f file c p o)
      wide p None e = fails BadSize
      wide p (Some w) e =
          let o = packet_run m f file c p in
          let g = good-packet f file p in
          record { marks = (good-bind m.faces fonts o (λ u. ends [] (well w)) g (λ u. record { marks = tt; chain = (omega arith, tt) })).marks; ending = ending o w p.width e g o.ending refl }

      by : (o : Option Packet) → Well (expanded_by m f file c o)
      by None = fails NoCode
      by (Some p) = wide p (scaled c.size p.width) refl

  good-file : (o : Option Entry) → Well (file_outcome m o c)
  good-file None = fails NoFont
  good-file (Some e) = good-expanded e.font e.file

module _ (m : Meaning) (es : List Entry) (law : Lawful m) (named : AllByRecursion GoodName (map entry_name es)) (few : length m.names + length es ≤ 4096) where
  long : length (m.names ++ map entry_name es) ≡ length m.names + length es
  long = omega (arith, length-append m.names (map entry_name es), length-map es entry_name)

  weaker : (e : Ending ℤ) → GoodEnding (length m.names) e → GoodEnding (length (m.names ++ map entry_name es)) e
  weaker (well w) g = g
  weaker (fault k ch) g = (g.0, All-weaker (λ (l : Link). l.font < length m.names) (λ (l : Link). l.font < length (m.names ++ map entry_name es)) (λ l h. omega (arith, long, h)) ch g.1)

  good-outcome : (font size code : ℕ) (h v : ℤ) → font < length (m.names ++ map entry_name es) → good_size size ≡ true → in_range h ≡ true → in_range v ≡ true → GoodOutcome (rank_meaning m es) ((rank_meaning m es).outcome font size code h v)
  good-outcome font size code h v l s a b = by (nat_lt font (length m.names)) refl
    where
      by : (t : Bool) → nat_lt font (length m.names) ≡ t → GoodOutcome (rank_meaning m es) (cond t (m.outcome font size code h v) (file_outcome m (slice_get es (font - length m.names)) (record { font = font; size = size; code = code; h = h; v = v })))
      by true e =
          let g = law.good_outcomes font size code h v (ltb-true font (length m.names) e) s a b in
          record { good-marks = g.good-marks; good-ending = weaker (m.outcome font size code h v).ending g.good-ending }
      by false e =
          let g = good-file m law (length (m.names ++ map entry_name es)) (omega (arith, long)) (record { font = font; size = size; code = code; h = h; v = v }) l (slice_get es (font - length m.names)) in
          record { good-marks = g.marks; good-ending = g.ending }

  good-face : (k : ℕ) (f : FaceMeaning) → slice_get m.faces k ≡ Some f → GoodFace (rank_meaning m es) k f
  good-face k f e =
      let g = law.good-faces k f e in
      record {
        good-facts = g.good-facts;
        font = g.font;
        font-is = found-append m.names (map entry_name es) f.facts.name ∙ ap (λ o. joined o (length m.names) (found_in (map entry_name es) f.facts.name)) g.font-is;
        font-outcome = λ size code h v. cond-true _ _ _ (lt-ltb g.font (length m.names) (found_within m.names f.facts.name g.font g.font-is)) ∙ g.font-outcome size code h v;
      }

  pub rank_lawful : Lawful (rank_meaning m es)
  rank_lawful =
      record {
        few = omega (arith, long, few);
        good-names = All-append GoodName m.names (map entry_name es) law.good-names named;
        few-faces = omega (arith, long, law.few-faces);
        unlike-faces = law.unlike-faces;
        good-faces = good-face;
        good_outcomes = good-outcome;
      }
