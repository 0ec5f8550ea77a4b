-- A copy as the code comes to it: its source read, and its page added or refused. Assumes nothing.
use Rattle.std.proofs.Common.{◌≡◌, ℕ, ◌+◌, ◌≤◌, Bool, true, false, cond, List, length, take, Some, None, Ok, Err, Option, Result, Bor, sym, refl, ap, ap₂, ◌∙◌, arith}
use Rattle.std.specs.Prelude.{nat_le}
use Rattle.std.specs.Option.{option_map, ok_or, option_copied, unwrap_or}
use Rattle.std.proofs.lemmas.Bool.{leb-true, le-leb, eq-eqb}
use Rattle.shelf.specs.declared.marks.Link.{Link}
use Rattle.shelf.specs.declared.marks.Mark.{Mark}
use Rattle.shelf.specs.declared.refusals.Refusal.{Refusal}
use Rattle.shelf.specs.declared.refusals.Refusal.TheVariants.{MarksFull, NoPage}
use Rattle.shelf.specs.Answers.{answer, ended}
use Rattle.shelf.specs.Meaning.{Meaning, Facts}
use Rattle.shelf.specs.Outcomes.{Outcome, Ending, well, fault}
use Rattle.shelf.proofs.Compose.{take-overlay, length-overlay}
use Rattle.document.specs.declared.documents.Document.{Document}
use Rattle.document.specs.Legal.{legal}
use Rattle.document.specs.Pages.{page_place}
use Rattle.reading.specs.Reading.{Served, page_reading, page_outcome, counts_at, counts_by, counts_of}
use Rattle.copies.specs.declared.pairs.Pair.{Pair}
use Rattle.copies.specs.Marks.{faces_of}
use Rattle.copies.specs.Pages.{Page, Progress, page_bytes, with_page}
use Rattle.copies.specs.Limits.{usable, overfull}
use Rattle.copies.specs.Writing.{overwritten}
use Rattle.writing.specs.declared.standings.Standing.{Standing}
use Rattle.writing.specs.Standings.{progress_of, standing_of}
use Rattle.writing.specs.Adding.{page_refused, page_added, page_over}
use Rattle.ledgers.specs.Sources.{Source, at_mag, sourced, unread, place_by, marks_by, page_of}
use Rattle.ledgers.specs.Rules.{too_short, with_source}
use Rattle.ledgers.specs.Steps.{View, copy, done, refused, Seen, seen, unless, moved_on, stepped_by, stepped}
use Rattle.ledgers.proofs.Documents.{page_stands}

abbrev count_in : Result (ℕ × Unit {0}) Refusal → ℕ
count_in (Ok p) = p.0
count_in (Err e) = 0

-- a page that was read in full, in a list of so many marks
pub record ReadOk (r : Result (Outcome (Unit {0})) Refusal) (marks marks' : List Mark) (n : ℕ) : Type 0 where
  pub outcome : Outcome (Unit {0})
  pub is : r ≡ Ok outcome
  pub within : n ≤ length marks'
  pub whole : take n marks' ≡ outcome.marks
  pub accepted : unread r (length marks) ≡ None

pub read_ok : (r : Result (Outcome (Unit {0})) Refusal) (chain chain' : List Link) (marks marks' : List Mark) (n : ℕ) (u : Unit {0}) → Served r chain chain' marks marks' (Ok (n, u)) → ReadOk r marks marks' n
unfolding answer
read_ok (Err e) chain chain' marks marks' n u s = absurd (let z : ◌≡◌ {A = ℕ} 0 1 = cc in omega arith)
read_ok (Ok o) chain chain' marks marks' n u s = by (nat_le (length o.marks) (length marks)) o.ending refl refl s.answered
  where
    by : (b : Bool) (x : Ending (Unit {0})) → nat_le (length o.marks) (length marks) ≡ b → o.ending ≡ x → Ok (n, u) ≡ cond b (ended (length o.marks) x) (Err MarksFull) → ReadOk (Ok o) marks marks' n
    by true (well w) t q p =
        let fits = leb-true (length o.marks) (length marks) t in
        let count : n ≡ length o.marks = ap count_in p in
        record {
          outcome = o;
          is = refl;
          within = omega (arith, count, ap length s.marked, length-overlay o.marks marks);
          whole = ap₂ (λ (k : ℕ) (xs : List Mark). take k xs) count s.marked ∙ take-overlay o.marks marks fits;
          accepted = rw (t, q) refl;
        }
    by true (fault k ch) t q p = absurd (let z : ◌≡◌ {A = ℕ} 0 1 = cc in omega arith)
    by false x t q p = absurd (let z : ◌≡◌ {A = ℕ} 0 1 = cc in omega arith)

-- a page of a legal document that was read
module _ (m : Meaning) (mag : ℕ) (s : Source) (d : Document) (judged : legal s.document ≡ Ok d) (same : d.mag ≡ mag) where
  pub sourced-is : sourced mag m s ≡ page_reading m s.document d s.page
  sourced-is = ap (at_mag mag m s) judged ∙ rw (eq-eqb d.mag mag same) refl

  -- its counts are there
  module _ (o : Outcome (Unit {0})) (read : page_reading m s.document d s.page ≡ Ok o) where
    pub counts-known : counts_of s.document d s.page ≡ Some (counts_at s.document (place_by s (Ok d)))
    counts-known = by (page_place s.document d s.page) refl read
      where
        by : (p : Option ℕ) → page_place s.document d s.page ≡ p → ok_or (option_map (page_outcome m s.document d s.page) p) NoPage ≡ Ok o → counts_by s.document p ≡ Some (counts_at s.document (unwrap_or p 0))
        by None e q = absurd (let z : ◌≡◌ {A = ℕ} 0 1 = cc in omega arith)
        by (Some a) e q =
            let stands = page_stands s.document d s.page a judged e in
            rw (le-leb (a + 41) (length s.document) (omega arith)) refl

    pub never_none : (r : Option (Bor (List ℕ))) → option_copied r ≡ counts_of s.document d s.page → r ≡ None → ⊥
    never_none (Some y) e q = let z : ◌≡◌ {A = ℕ} 0 1 = cc in omega arith
    never_none None e q = let none : ◌≡◌ {A = Option (List ℕ)} None (Some (counts_at s.document (place_by s (Ok d)))) = e ∙ counts-known in let z : ◌≡◌ {A = ℕ} 0 1 = cc in omega arith

    pub page-known : (counts : List ℕ) (marks : List Mark) → Some counts ≡ counts_of s.document d s.page → marks ≡ o.marks → ◌≡◌ {A = Page} (record { counts = counts; marks = marks }) (page_of mag m s)
    page-known counts marks e q =
        let both : Some counts ≡ Some (counts_at s.document (place_by s (Ok d))) = e ∙ counts-known in
        let c : counts ≡ counts_at s.document (place_by s (legal s.document)) = (let x : counts ≡ counts_at s.document (place_by s (Ok d)) = cc in x) ∙ ap (λ r. counts_at s.document (place_by s r)) (sym judged) in
        let k : marks ≡ marks_by (sourced mag m s) = q ∙ ap marks_by (sym (sourced-is ∙ read)) in
        λ i. record { counts = c i; marks = k i }

-- the page added, or refused
module _ (v : View) (g : Progress) (s : Source) (room : ℕ) (out : List ℕ) (e : v.come ≡ Some g) (enough : too_short g (length out) ≡ None) (read : unread (sourced v.opening.mag v.means s) room ≡ None) where
  abbrev F : ℕ → Facts
  F = faces_of v.means

  abbrev over : Option Refusal
  over = overfull F v.opening (with_source v.means v.opening g s) (usable (length out))

  abbrev whole : Seen
  whole = seen (moved_on v (Some (with_source v.means v.opening g s))) (overwritten g.used (page_bytes F g (page_of v.opening.mag v.means s)) out) done

  step-is : stepped v (copy s room) out ≡ unless v out over whole
  step-is = ap (λ c. stepped_by v c (copy s room) out) e ∙ rw (enough, read) refl

  module _ (p : Page) (is : p ≡ page_of v.opening.mag v.means s) (r : Result Standing Refusal) (left : List ℕ) (added : (r, left) ≡ page_over F v.opening g p out) where
    abbrev is-over : Option Refusal → Type 0
    is-over o = page_refused F v.opening g p (usable (length out)) ≡ o

    over-is : page_refused F v.opening g p (usable (length out)) ≡ over
    over-is = ap (λ (x : Page). page_refused F v.opening g x (usable (length out))) is

    pub page-refused : (k : Refusal) (next : View) → r ≡ Err k → next ≡ v → seen next left (refused k) ≡ stepped v (copy s room) out
    page-refused k next q n = by (page_refused F v.opening g p (usable (length out))) refl added
      where
        by : (o : Option Refusal) → is-over o → (r, left) ≡ page_added F g p out o → seen next left (refused k) ≡ stepped v (copy s room) out
        by None t a = absurd (let w : ◌≡◌ {A = Result Standing Refusal} (Err k) (Ok (standing_of (with_page F g p))) = sym q ∙ ap (λ x. x.0) a in let z : ◌≡◌ {A = ℕ} 0 1 = cc in omega arith)
        by (Some f) t a =
            let w : ◌≡◌ {A = Result Standing Refusal} (Err k) (Err f) = sym q ∙ ap (λ x. x.0) a in
            let same : k ≡ f = cc in
            let here : over ≡ Some k = sym over-is ∙ t ∙ ap Some (sym same) in
            (λ i. seen (n i) (ap (λ x. x.1) a i) (refused k)) ∙ sym (step-is ∙ rw here refl)

    pub page-added : (st : Standing) (ps : List Pair) (next : View) → r ≡ Ok st → ps ≡ (with_page F g p).pairs → next ≡ moved_on v (Some (progress_of st ps)) → seen next left done ≡ stepped v (copy s room) out
    page-added st ps next q pairs n = by (page_refused F v.opening g p (usable (length out))) refl added
      where
        by : (o : Option Refusal) → is-over o → (r, left) ≡ page_added F g p out o → seen next left done ≡ stepped v (copy s room) out
        by (Some f) t a = absurd (let w : ◌≡◌ {A = Result Standing Refusal} (Ok st) (Err f) = sym q ∙ ap (λ x. x.0) a in let z : ◌≡◌ {A = ℕ} 0 1 = cc in omega arith)
        by None t a =
            let w : ◌≡◌ {A = Result Standing Refusal} (Ok st) (Ok (standing_of (with_page F g p))) = sym q ∙ ap (λ x. x.0) a in
            let same : st ≡ standing_of (with_page F g p) = cc in
            let far : progress_of st ps ≡ with_source v.means v.opening g s = ap₂ (λ (x : Standing) (y : List Pair). progress_of x y) same pairs ∙ ap (λ (x : Page). with_page F g x) is in
            let bytes : left ≡ overwritten g.used (page_bytes F g (page_of v.opening.mag v.means s)) out = ap (λ x. x.1) a ∙ ap (λ (x : Page). overwritten g.used (page_bytes F g x) out) is in
            let none : over ≡ None = sym over-is ∙ t in
            let run : next ≡ moved_on v (Some (with_source v.means v.opening g s)) = n ∙ ap (λ (x : Progress). moved_on v (Some x)) far in
            (λ i. seen (run i) (bytes i) done) ∙ sym (step-is ∙ rw none refl)
