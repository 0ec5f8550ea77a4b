-- A document's own refusals have no chain, and a page that is read makes good marks. Assumes nothing.
use Rattle.std.proofs.Common.{◌≡◌, ℕ, ◌+◌, ◌-◌, Bool, true, false, cond, List, length, take, Some, None, Ok, Err, Option, Result, refl, subst, arith}
use Rattle.std.specs.Prelude.{◌==◌, slice_index}
use Rattle.std.specs.Option.{option_map, ok_or}
use Rattle.std.specs.Result.{result_and}
use Rattle.std.specs.List.{AllByRecursion}
use Rattle.shelf.specs.declared.refusals.Refusal.{Refusal}
use Rattle.shelf.specs.declared.refusals.Refusal.TheVariants.{NoPage, DocumentLength, NotDocument, WrongUnits, BrokenEnding, BrokenPages, BrokenPostamble}
use Rattle.shelf.specs.Laws.{GoodMark, Lawful}
use Rattle.shelf.specs.Meaning.{Meaning}
use Rattle.shelf.specs.Outcomes.{Outcome}
use Rattle.shelf.specs.Refusals.{returned}
use Rattle.machine.proofs.Good.{good-run}
use Rattle.document.specs.declared.documents.Document.{Document}
use Rattle.document.specs.Bytes.{four}
use Rattle.document.specs.Fonts.{first_unlawful}
use Rattle.document.specs.Legal.{bare, ended, legal, placed, sized, started, stated, unit_at, units_before, units_behind}
use Rattle.document.specs.Pages.{broken_pointer, page_place}
use Rattle.fulatzebi.proofs.Fresh.{Real, real_marks}
use Rattle.reading.specs.Reading.{page_outcome, page_reading, page_start, page_world, reading, reading_of}

-- a refusal, if it is one, that returns no chain
abbrev pub Linkless : {X : Type 0} → Result X Refusal → Type 0
Linkless (Ok x) = Unit {0}
Linkless (Err e) = (returned e).links ≡ None

pub linkless : {X : Type 0} (r : Result X Refusal) (e : Refusal) → Linkless r → r ≡ Err e → (returned e).links ≡ None
linkless {X} r e l q = subst (Linkless {X = X}) q l

both : {X Y : Type 0} (a : Result X Refusal) (b : Result Y Refusal) → Linkless a → Linkless b → Linkless (result_and a b)
both (Ok x) b l m = m
both (Err e) b l m = l

either : {X : Type 0} (t : Bool) (a b : Result X Refusal) → Linkless a → Linkless b → Linkless (cond t a b)
either true a b l m = l
either false a b l m = m

placed_linkless : (refusal : ℕ → Refusal) (p : Option ℕ) → ((n : ℕ) → (returned (refusal n)).links ≡ None) → Linkless (placed refusal p)
placed_linkless refusal (Some n) h = h n
placed_linkless refusal None h = tt

unit_linkless : (bs : List ℕ) (place unit : ℕ) → Linkless (unit_at bs place unit)
unit_linkless bs place unit = either (four bs place == unit) (Ok tt) (Err (WrongUnits place)) tt refl

pub legal_linkless : (bs : List ℕ) → Linkless (legal bs)
unfolding legal
legal_linkless bs =
    let m = bare bs (length bs) in
    let q = four bs (m - 5) in
    both (sized bs) _ (either _ (Ok tt) (Err (DocumentLength (length bs))) tt refl)
    (both (started bs) _ (either (slice_index bs 0 == 247) _ (Err (NotDocument 0)) (either (slice_index bs 1 == 2) (Ok tt) _ tt refl) refl)
    (both (units_before bs) _ (both _ _ (unit_linkless bs 2 25400000) (both _ _ (unit_linkless bs 6 473628672) (either _ (Ok tt) (Err (WrongUnits 10)) tt refl)))
    (both (ended bs m q) _ (either _ (Ok tt) (Err (BrokenEnding (length bs))) tt refl)
    (both (units_behind bs q) _ (both _ _ (unit_linkless bs (q + 5) 25400000) (both _ _ (unit_linkless bs (q + 9) 473628672) (unit_linkless bs (q + 13) (four bs 10))))
    (both _ _ (placed_linkless BrokenPostamble (first_unlawful (take (m - 6) bs) (q + 29)) (λ n. refl))
    (both _ (Ok (stated bs q (m - 6))) (placed_linkless BrokenPages (broken_pointer bs q) (λ n. refl)) tt))))))

found_linkless : (m : Meaning) (bs : List ℕ) (d : Document) (n : ℕ) (p : Option ℕ) → Linkless (ok_or (option_map (page_outcome m bs d n) p) NoPage)
found_linkless m bs d n (Some a) = tt
found_linkless m bs d n None = refl

pub page_linkless : (m : Meaning) (bs : List ℕ) (d : Document) (n : ℕ) → Linkless (page_reading m bs d n)
page_linkless m bs d n = found_linkless m bs d n (page_place bs d n)

pub reading_linkless : (m : Meaning) (bs : List ℕ) (n : ℕ) → Linkless (reading m bs n)
reading_linkless m bs n = by (legal bs) (legal_linkless bs)
  where
    by : (r : Result Document Refusal) → Linkless r → Linkless (reading_of m bs n r)
    by (Ok d) l = page_linkless m bs d n
    by (Err e) l = l

-- the marks of a page that is read are marks of the shelf
pub good_page : (m : Meaning) → Lawful m → (bs : List ℕ) (d : Document) (n : ℕ) (o : Outcome (Unit {0})) → page_reading m bs d n ≡ Ok o → AllByRecursion (GoodMark m.faces) o.marks
unfolding page_outcome
good_page m law bs d n o e = at (page_place bs d n) e
  where
    at : (p : Option ℕ) → ok_or (option_map (page_outcome m bs d n) p) NoPage ≡ Ok o → AllByRecursion (GoodMark m.faces) o.marks
    at None q = absurd (let z : ◌≡◌ {A = ℕ} 0 1 = cc in omega arith)
    at (Some a) q =
        let u = page_world m bs d n in
        let g = good-run u 65536 law (let few = law.few in omega arith) (λ i. omega arith) (take d.post bs) 0 (a + 45) (length (take d.post bs) - (a + 45)) page_start in
        let same : page_outcome m bs d n a ≡ o = cc in
        subst (λ (y : Outcome (Unit {0})). AllByRecursion (GoodMark m.faces) y.marks) same g.marks

pub good_reading : (m : Meaning) → Lawful m → (bs : List ℕ) (n : ℕ) (o : Outcome (Unit {0})) → reading m bs n ≡ Ok o → AllByRecursion (GoodMark m.faces) o.marks
good_reading m law bs n o e = by (legal bs) e
  where
    by : (r : Result Document Refusal) → reading_of m bs n r ≡ Ok o → AllByRecursion (GoodMark m.faces) o.marks
    by (Ok d) q = good_page m law bs d n o q
    by (Err x) q = absurd (let z : ◌≡◌ {A = ℕ} 0 1 = cc in omega arith)

pub real_reading : (m : Meaning) → Lawful m → (bs : List ℕ) (n : ℕ) (o : Outcome (Unit {0})) → reading m bs n ≡ Ok o → Real o.marks
real_reading m law bs n o e = real_marks m.faces o.marks (good_reading m law bs n o e)
