-- Pages read in full. Assumes nothing.
use Rattle.std.proofs.Common.{◌≡◌, ℕ, ◌+◌, ◌<◌, ◌≤◌, Bool, true, false, cond, List, [], ◌∷◌, ◌++◌, length, get_or, take, Ok, Err, Result, sym, refl, ap, ap₂, ◌∙◌, arith, length-append, inl, inr, ◌⊎◌}
use Rattle.std.specs.Prelude.{nat_le}
use Rattle.std.proofs.lemmas.Bool.{cases_lt, leb-true}
use Rattle.std.proofs.lemmas.List.{get_or_append_left, get_or_push}
use Rattle.shelf.specs.declared.marks.Link.{Link}
use Rattle.shelf.specs.declared.marks.Mark.{Mark}
use Rattle.shelf.specs.declared.refusals.Refusal.{Refusal}
use Rattle.shelf.specs.declared.refusals.Refusal.TheVariants.{MarksFull}
use Rattle.shelf.specs.Answers.{answer, ended}
use Rattle.shelf.specs.Meaning.{Meaning}
use Rattle.shelf.specs.Outcomes.{Outcome, Ending, ends, fault, well}
use Rattle.shelf.proofs.Compose.{take-overlay}
use Rattle.document.specs.declared.documents.Document.{Document}
use Rattle.reading.specs.Reading.{Served, page_reading}
use Rattle.copying.specs.Checked.{ReadsAs}

abbrev count_in : Result (ℕ × Unit {0}) Refusal → ℕ
count_in (Ok p) = p.0
count_in (Err e) = 0

-- a page that is answered was read in full, and its marks stand at the front of the list
pub read_whole : (r : Result (Outcome (Unit {0})) Refusal) (chain chain' : List Link) (marks marks' : List Mark) (n : ℕ) → Served r chain chain' marks marks' (Ok (n, tt)) → r ≡ Ok (ends (take n marks') (well tt))
unfolding answer
read_whole (Err e) chain chain' marks marks' n s = absurd (let z : ◌≡◌ {A = ℕ} 0 1 = cc in omega arith)
read_whole (Ok o) chain chain' marks marks' n s = by (nat_le (length o.marks) (length marks)) o.ending refl refl s.answered
  where
    by : (b : Bool) (x : Ending (Unit {0})) → nat_le (length o.marks) (length marks) ≡ b → o.ending ≡ x → Ok (n, tt) ≡ cond b (ended (length o.marks) x) (Err MarksFull) → ◌≡◌ {A = Result (Outcome (Unit {0})) Refusal} (Ok o) (Ok (ends (take n marks') (well tt)))
    by true (well w) t q p =
        let fits = leb-true (length o.marks) (length marks) t in
        let count : n ≡ length o.marks = ap count_in p in
        let is : o.marks ≡ take n marks' = sym (ap₂ (λ (k : ℕ) (xs : List Mark). take k xs) count s.marked ∙ take-overlay o.marks marks fits) in
        ap₂ (λ (ms : List Mark) (e : Ending (Unit {0})). Ok (ends ms e)) is q
    by true (fault k ch) t q p = absurd (let z : ◌≡◌ {A = ℕ} 0 1 = cc in omega arith)
    by false x t q p = absurd (let z : ◌≡◌ {A = ℕ} 0 1 = cc in omega arith)

-- so many pages were read, and have these marks
pub record SoFar (m : Meaning) (bytes : List ℕ) (stated : Document) (first k : ℕ) (pages : List (List Mark)) : Type 0 where
  pub count : length pages ≡ k
  pub read : ReadsAs m bytes stated first pages

pub one-page-more : (m : Meaning) (bytes : List ℕ) (stated : Document) (first k page : ℕ) (pages : List (List Mark)) (marks : List Mark) → SoFar m bytes stated first k pages → page ≡ first + k → page_reading m bytes stated page ≡ Ok (ends marks (well tt)) → SoFar m bytes stated first (k + 1) (pages ++ marks ∷ [])
one-page-more m bytes stated first k page pages marks s at read =
    record {
      count = omega (arith, length-append pages (marks ∷ []), s.count);
      read = λ j h. by j h (cases_lt j k);
    }
  where
    by : (j : ℕ) → j < length (pages ++ marks ∷ []) → (j < k) ⊎ (k ≤ j) → page_reading m bytes stated (first + j) ≡ Ok (ends (get_or (pages ++ marks ∷ []) j []) (well tt))
    by j h (inl less) = s.read j (omega (arith, s.count)) ∙ ap (λ (ms : List Mark). Ok (ends ms (well tt))) (sym (get_or_append_left pages (marks ∷ []) [] j (omega (arith, s.count))))
    by j h (inr more) =
        let last : j ≡ k = omega (arith, length-append pages (marks ∷ []), s.count) in
        let here : page ≡ first + j = omega arith in
        ap (page_reading m bytes stated) (sym here) ∙ read ∙ ap (λ (ms : List Mark). Ok (ends ms (well tt))) (sym (get_or_push pages marks [] j (s.count ∙ sym last)))

-- one page more of a file has its marks
pub one-reads : (m : Meaning) (bytes : List ℕ) (stated : Document) (pages : List (List Mark)) (k : ℕ) (marks : List Mark) → ((j : ℕ) → j < k → page_reading m bytes stated (1 + j) ≡ Ok (ends (get_or pages j []) (well tt)))
    → page_reading m bytes stated (k + 1) ≡ Ok (ends marks (well tt)) → marks ≡ get_or pages k [] → (j : ℕ) → j < k + 1 → page_reading m bytes stated (1 + j) ≡ Ok (ends (get_or pages j []) (well tt))
one-reads m bytes stated pages k marks so-far read same j h = by (cases_lt j k)
  where
    by : (j < k) ⊎ (k ≤ j) → page_reading m bytes stated (1 + j) ≡ Ok (ends (get_or pages j []) (well tt))
    by (inl less) = so-far j less
    by (inr more) =
        let last : k ≡ j = omega arith in
        let next : 1 + j ≡ k + 1 = omega arith in
        ap (page_reading m bytes stated) next ∙ read ∙ ap (λ (ms : List Mark). Ok (ends ms (well tt))) (same ∙ ap (λ i. get_or pages i []) last)
