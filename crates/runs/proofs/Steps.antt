-- What the calls of a run leave, as the code comes to it. Assumes nothing.
use Rattle.std.proofs.Common.{◌≡◌, ℕ, Bool, true, false, cond, List, [], length, Some, None, Ok, Err, Option, Result, sym, refl, ap, ◌∙◌, arith}
use Rattle.std.specs.Prelude.{nat_le, nat_lt}
use Rattle.std.proofs.lemmas.Bool.{ltb-true, ltb-false, le-leb, lt-leb}
use Rattle.shelf.specs.declared.refusals.Refusal.{Refusal}
use Rattle.shelf.specs.declared.refusals.Refusal.TheVariants.{OutputFull, BadOutput}
use Rattle.shelf.specs.Meaning.{Meaning, Facts}
use Rattle.document.specs.declared.documents.Document.{Document}
use Rattle.document.specs.Legal.{legal}
use Rattle.copies.specs.Marks.{faces_of}
use Rattle.copies.specs.Pages.{Progress}
use Rattle.copies.specs.Files.{Opening, front_bytes, fonts_bytes, post_bytes, end_bytes, closing_bytes, closed_length, begun}
use Rattle.copies.specs.Limits.{usable}
use Rattle.copies.specs.Writing.{overwritten}
use Rattle.writing.specs.Beginning.{begun_over}
use Rattle.writing.specs.Standings.{standing_of, progress_of}
use Rattle.writing.specs.declared.standings.Standing.{Standing}
use Rattle.ledgers.specs.Rules.{strike_refusal}
use Rattle.ledgers.specs.Steps.{View, strike, done, refused, seen, unless, moved_on, pointer_back, without_last, struck_to, stepped_by, stepped, Begun, opening_by, fresh, beginning_by, beginning}

-- ---- strike

module _ (v : View) (g : Progress) (out : List ℕ) (e : v.come ≡ Some g) (none : strike_refusal g (length out) ≡ None) where
  by-pointer : (o : Option ℕ) → o ≡ pointer_back g out → stepped v strike out ≡ struck_to v g out o
  by-pointer o p = ap (λ c. stepped_by v c strike out) e ∙ ap (λ r. unless v out r (struck_to v g out (pointer_back g out))) none ∙ ap (struck_to v g out) (sym p)

  pub strike-refused : None ≡ pointer_back g out → seen v out (refused BadOutput) ≡ stepped v strike out
  strike-refused p = sym (by-pointer None p)

  pub strike-done : (p : ℕ) (next : View) → Some p ≡ pointer_back g out → next ≡ moved_on v (Some (without_last g p)) → seen next out done ≡ stepped v strike out
  strike-done p next q n = ap (λ w. seen w out done) n ∙ sym (by-pointer (Some p) q)

-- ---- opening

pub empty-length : (F : ℕ → Facts) (o : Opening) → closed_length F o begun ≡ 56
unfolding closing_bytes post_bytes fonts_bytes end_bytes
empty-length F o = refl

module _ (m : Meaning) (document out : List ℕ) (d : Document) (is : legal document ≡ Ok d) where
  abbrev o : Opening
  o = opening_by d

  abbrev F : ℕ → Facts
  F = faces_of m

  -- the run by the standing that the front was written with
  abbrev pub run_by : Result Standing Refusal → Result View Refusal
  run_by (Ok s) = Ok (record { means = m; opening = o; come = Some (progress_of s []) })
  run_by (Err e) = Err e

  begun-is : beginning m document out ≡ cond (nat_lt (length out) 56) (record { run = Err OutputFull; out = out }) (record { run = Ok (fresh m o); out = overwritten 0 (front_bytes d.mag) out })
  begun-is = ap (beginning_by m out) is

  -- the least output is the closed length of a copy without pages
  pub opens : (r : Result Standing Refusal) (left : List ℕ) → (r, left) ≡ begun_over F o out → ◌≡◌ {A = Begun} (record { run = run_by r; out = left }) (beginning m document out)
  opens r left e = by (nat_lt (length out) 56) refl
    where
      shown : (p : Result Standing Refusal × List ℕ) → begun_over F o out ≡ p → ◌≡◌ {A = Begun} (record { run = run_by r; out = left }) (record { run = run_by p.0; out = p.1 })
      shown p q = ap (λ (x : Result Standing Refusal × List ℕ). record { run = run_by x.0; out = x.1 }) (e ∙ q)

      fits : (b : Bool) → nat_le 56 (usable (length out)) ≡ b → nat_le (closed_length F o begun) (usable (length out)) ≡ b
      fits b q = ap (λ n. nat_le n (usable (length out))) (empty-length F o) ∙ q

      by : (b : Bool) → nat_lt (length out) 56 ≡ b → ◌≡◌ {A = Begun} (record { run = run_by r; out = left }) (beginning m document out)
      by true t =
          let less = ltb-true (length out) 56 t in
          shown (Err OutputFull, out) (rw (fits false (lt-leb 56 (usable (length out)) (omega arith))) refl) ∙ sym (begun-is ∙ rw t refl)
      by false t =
          let more = ltb-false (length out) 56 t in
          shown (Ok (standing_of begun), overwritten 0 (front_bytes d.mag) out) (rw (fits true (le-leb 56 (usable (length out)) (omega arith))) refl) ∙ sym (begun-is ∙ rw t refl)
