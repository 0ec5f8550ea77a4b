-- The closed file passes each check of a legal document. Assumes nothing.
use Rattle.std.proofs.Common.{◌≡◌, ℕ, ◌+◌, ◌-◌, ◌^◌, ◌<◌, ◌≤◌, List, [], ◌∷◌, ◌++◌, length, get_or, take, drop, None, Ok, refl, ap, ◌∙◌, arith}
use Rattle.std.proofs.lemmas.Bool.{le-leb, eq-eqb}
use Rattle.numbers.specs.Bytes.{digits}
use Rattle.shelf.specs.Laws.{Lawful}
use Rattle.shelf.specs.Meaning.{Meaning, Facts}
use Rattle.copies.specs.Marks.{faces_of}
use Rattle.copies.specs.Pages.{Page, Progress}
use Rattle.copies.specs.Files.{Opening, front_bytes, post_bytes, end_bytes, progress, closed}
use Rattle.document.specs.Bytes.{four, two}
use Rattle.document.specs.Fonts.{first_unlawful}
use Rattle.document.specs.Legal.{sized, started, units_before, ended, units_behind, stated, legal}
use Rattle.document.specs.Pages.{past_comment, broken_pointer}
use Rattle.readback.proofs.Stands.{behind, read_at, number-at}
use Rattle.readback.proofs.Pages.{used-least, page-count, progress-pairs}
use Rattle.closedfiles.specs.Closed.{Writable, end_of, statement}
use Rattle.closedfiles.proofs.Laid.{fonts, ending, filled, file-is, at_post, at-ending, at-number, at_id, fill-least, length-file, at_front, fonts-last, bare-is}
use Rattle.closedfiles.proofs.Fonts.{all_lawful}
use Rattle.closedfiles.proofs.Chain.{four_is, last_fits, chain_whole}

two_is : (s : List ℕ) (at n : ℕ) (rest : List ℕ) → drop at s ≡ digits 2 n ++ rest → n < 2 ^ 16 → two s at ≡ n
unfolding two
two_is s at n rest e h = number-at s at 2 n rest e h

module _ (m : Meaning) (law : Lawful m) (o : Opening) (ps : List Page) (w : Writable m o ps) where
  abbrev F : ℕ → Facts
  F = faces_of m

  abbrev s : List ℕ
  s = closed F o ps

  abbrev now : Progress
  now = progress F ps

  abbrev end : ℕ
  end = end_of F now

  long : length s ≡ end + 6 + filled F o ps w.counted
  long = length-file F o ps w.counted

  fill : 4 ≤ filled F o ps w.counted
  fill = fill-least F o ps w.counted

  pub small : now.used < 2 ^ 32
  small = omega (arith, long, w.short)

  -- the front
  front_byte : (i : ℕ) → i < 15 → get_or s i 0 ≡ get_or (front_bytes o.mag) i 0
  unfolding front_bytes
  front_byte i h = grind (arith, read_at, at_front)

  mag-small : o.mag < 2 ^ 32
  mag-small = omega (arith, w.mag-most)

  num_before : four s 2 ≡ 25400000
  unfolding front_bytes
  num_before = four_is s 2 25400000 _ (behind s 0 (247 ∷ 2 ∷ []) _ (at_front F o ps w.counted) 2 2 refl refl) (omega arith)

  den_before : four s 6 ≡ 473628672
  unfolding front_bytes
  den_before = four_is s 6 473628672 _ (behind s 0 (247 ∷ 2 ∷ digits 4 25400000) _ (at_front F o ps w.counted) 6 6 refl refl) (omega arith)

  pub mag-before : four s 10 ≡ o.mag
  unfolding front_bytes
  mag-before = four_is s 10 o.mag _ (behind s 0 (247 ∷ 2 ∷ (digits 4 25400000 ++ digits 4 473628672)) _ (at_front F o ps w.counted) 10 10 refl refl) mag-small

  past_comment_lem : past_comment s ≡ 15
  unfolding front_bytes
  past_comment_lem = ap (λ b. 15 + b) (front_byte 14 (omega arith))

  -- the postamble's fields
  from_last : drop (now.used + 1) s ≡ digits 4 now.last ++ (digits 4 25400000 ++ (digits 4 473628672 ++ (digits 4 o.mag ++ (digits 4 o.l ++ (digits 4 o.u ++ (digits 2 0 ++ (digits 2 now.count ++ (fonts F o ps w.counted ++ ending F o ps w.counted))))))))
  unfolding post_bytes
  from_last = behind s now.used (248 ∷ []) _ (at_post F o ps w.counted) 1 (now.used + 1) refl refl

  field : (k n place : ℕ) (before rest : List ℕ) → drop (now.used + 1) s ≡ before ++ (digits 4 n ++ rest) → length before ≡ k → place ≡ now.used + 1 + k → n < 2 ^ 32 → four s place ≡ n
  field k n place before rest e l p h = grind (arith, four_is, behind)

  pub last-is : four s (now.used + 1) ≡ now.last
  last-is = four_is s (now.used + 1) now.last _ from_last (last_fits F ps small)

  num_behind : four s (now.used + 5) ≡ 25400000
  num_behind = field 4 25400000 (now.used + 5) (digits 4 now.last) _ from_last refl (omega arith) (omega arith)

  den_behind : four s (now.used + 9) ≡ 473628672
  den_behind = field 8 473628672 (now.used + 9) (digits 4 now.last ++ digits 4 25400000) _ from_last refl (omega arith) (omega arith)

  abbrev heads : List ℕ
  heads = digits 4 now.last ++ (digits 4 25400000 ++ digits 4 473628672)

  mag-behind : four s (now.used + 13) ≡ o.mag
  mag-behind = field 12 o.mag (now.used + 13) heads _ from_last refl (omega arith) mag-small

  l-is : four s (now.used + 17) ≡ o.l
  l-is = field 16 o.l (now.used + 17) (heads ++ digits 4 o.mag) _ from_last refl (omega arith) w.l-fits

  u-is : four s (now.used + 21) ≡ o.u
  u-is = field 20 o.u (now.used + 21) (heads ++ (digits 4 o.mag ++ digits 4 o.l)) _ from_last refl (omega arith) w.u-fits

  pub pages_are : two s (now.used + 27) ≡ length ps
  pages_are =
      let n = page-count F ps in
      two_is s (now.used + 27) now.count _ (behind s (now.used + 1) (heads ++ (digits 4 o.mag ++ (digits 4 o.l ++ (digits 4 o.u ++ digits 2 0)))) _ from_last 26 (now.used + 27) refl (omega arith)) (omega (arith, w.few-pages, n)) ∙ n

  -- the checks, in their order
  size-passes : sized s ≡ Ok tt
  size-passes = grind (arith, used-least, le-leb, long, fill)

  start-passes : started s ≡ Ok tt
  unfolding front_bytes
  start-passes = grind (arith, front_byte)

  units_pass : units_before s ≡ Ok tt
  units_pass = grind (arith, num_before, den_before, mag-before, le-leb)

  end_byte : get_or s (end + 6 - 6) 0 ≡ 249
  unfolding end_bytes
  end_byte = read_at s end (249 ∷ []) _ (at-ending F o ps w.counted) 0 (end + 6 - 6) (omega arith) (omega arith)

  id_byte : get_or s (end + 6 - 1) 0 ≡ 2
  id_byte = read_at s (end + 5) (2 ∷ []) _ (at_id F o ps w.counted) 0 (end + 6 - 1) (omega arith) (omega arith)

  post_byte : get_or s now.used 0 ≡ 248
  unfolding post_bytes
  post_byte = read_at s now.used (248 ∷ []) _ (at_post F o ps w.counted) 0 now.used (omega arith) (omega arith)

  ending-passes : ended s (end + 6) now.used ≡ Ok tt
  ending-passes = grind (arith, used-least, past_comment_lem, le-leb, long, fill, id_byte, end_byte, post_byte)

  behind-passes : units_behind s now.used ≡ Ok tt
  behind-passes = rw (num_behind, den_behind, mag-behind, mag-before, eq-eqb o.mag o.mag refl)

  before-end : take (end + 6 - 6) s ≡ take end s
  before-end = grind arith

  fonts_pass : first_unlawful (take (end + 6 - 6) s) (now.used + 29) ≡ None
  unfolding first_unlawful
  fonts_pass = grind (arith, before-end, all_lawful, progress-pairs, fonts-last)

  pages_pass : broken_pointer s now.used ≡ None
  pages_pass = grind (arith, pages_are, chain_whole, file-is, small, last-is)

  stated-is : stated s now.used (end + 6 - 6) ≡ statement F o ps
  stated-is = grind (arith, mag-before, l-is, u-is, last-is, pages_are)

  post_place : four s (end + 6 - 5) ≡ now.used
  post_place =
      let e : end + 6 - 5 ≡ end + 1 = omega arith in
      ap (four s) e ∙ four_is s (end + 1) now.used _ (at-number F o ps w.counted) small

  pub closed-legal : legal s ≡ Ok (statement F o ps)
  unfolding legal
  closed-legal = rw (bare-is F o ps w.counted, post_place, size-passes, start-passes, units_pass, ending-passes, behind-passes, fonts_pass, pages_pass, stated-is)
