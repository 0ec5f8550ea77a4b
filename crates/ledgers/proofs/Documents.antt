-- What is known of a legal document: its pages stand in it, and its numbers are in range. Assumes nothing.
use Rattle.std.proofs.Common.{◌≡◌, ℕ, zero, suc, ◌+◌, ◌-◌, ◌^◌, ◌<◌, ◌≤◌, Bool, true, false, cond, ◌&&◌, List, length, get_or, take, Some, None, Ok, Err, Option, Result, sym, refl, ap, ◌∙◌, subst, arith}
use Rattle.std.specs.Prelude.{nat_le, nat_lt, slice_index, ◌==◌}
use Rattle.std.specs.Result.{result_and}
use Rattle.std.proofs.lemmas.Bool.{and_parts, leb-true, cases_Bool}
use Rattle.shelf.specs.declared.refusals.Refusal.{Refusal}
use Rattle.shelf.specs.declared.refusals.Refusal.TheVariants.{WrongUnits, BrokenEnding, BrokenPages, BrokenPostamble}
use Rattle.document.specs.declared.documents.Document.{Document}
use Rattle.document.specs.Bytes.{four, two}
use Rattle.document.specs.Fonts.{first_unlawful}
use Rattle.document.specs.Legal.{sized, started, unit_at, units_before, ended, units_behind, stated, placed, bare, legal}
use Rattle.document.specs.Pages.{past_comment, leads, broken_from, broken_pointer, page_before, page_place}
use Rattle.ledgers.specs.Histories.{AreBytes}

pub and_ok : {T U E : Type 0} (a : Result T E) (b : Result U E) (x : U) → result_and a b ≡ Ok x → (t : T) × (a ≡ Ok t) × (b ≡ Ok x)
and_ok (Ok t) b x e = (t, refl, e)
and_ok (Err k) b x e = absurd (let z : ◌≡◌ {A = ℕ} 0 1 = cc in omega arith)

pub ok_test : {T E : Type 0} (b : Bool) (t x : T) (k : E) → cond b (Ok t) (Err k) ≡ Ok x → b ≡ true
ok_test true t x k e = refl
ok_test false t x k e = absurd (let z : ◌≡◌ {A = ℕ} 0 1 = cc in omega arith)

placed_none : (r : ℕ → Refusal) (o : Option ℕ) → placed r o ≡ Ok tt → o ≡ None
placed_none r None e = refl
placed_none r (Some p) e = absurd (let z : ◌≡◌ {A = ℕ} 0 1 = cc in omega arith)

-- what the checks have seen, the 248 at q and the 249 at an end
pub record Checked (bs : List ℕ) (d : Document) : Type 0 where
  pub q : ℕ
  pub end : ℕ
  pub is : d ≡ stated bs q end
  pub fits : q + 29 ≤ length bs
  pub chain : broken_pointer bs q ≡ None
  pub mag-least : 1 ≤ d.mag
  pub mag-most : d.mag ≤ 32768

checked-by : (bs : List ℕ) (d : Document) (m q : ℕ)
    → result_and (sized bs) (result_and (started bs) (result_and (units_before bs) (result_and (ended bs m q) (result_and (units_behind bs q)
    (result_and (placed BrokenPostamble (first_unlawful (take (m - 6) bs) (q + 29)))
    (result_and (placed BrokenPages (broken_pointer bs q)) (Ok (stated bs q (m - 6))))))))) ≡ Ok d → Checked bs d
checked-by bs d m q e =
    let a1 = and_ok (sized bs) _ d e in
    let a2 = and_ok (started bs) _ d a1.2 in
    let a3 = and_ok (units_before bs) _ d a2.2 in
    let a4 = and_ok (ended bs m q) _ d a3.2 in
    let a5 = and_ok (units_behind bs q) _ d a4.2 in
    let a6 = and_ok (placed BrokenPostamble (first_unlawful (take (m - 6) bs) (q + 29))) _ d a5.2 in
    let a7 = and_ok (placed BrokenPages (broken_pointer bs q)) (Ok (stated bs q (m - 6))) d a6.2 in
    let is : stated bs q (m - 6) ≡ d = cc in
    let u1 = and_ok (unit_at bs 2 25400000) _ a3.0 a3.1 in
    let u2 = and_ok (unit_at bs 6 473628672) _ a3.0 u1.2 in
    let mag = and_parts (nat_le 1 (four bs 10)) (nat_le (four bs 10) 32768) (ok_test (nat_le 1 (four bs 10) && nat_le (four bs 10) 32768) tt a3.0 (WrongUnits 10) u2.2) in
    let ending = ok_test _ tt a4.0 (BrokenEnding (length bs)) a4.1 in
    let b1 = and_parts (nat_le (m + 4) (length bs)) _ ending in
    let b2 = and_parts (nat_le 6 m) _ b1.1 in
    let b3 = and_parts (slice_index bs (m - 1) == 2) _ b2.1 in
    let b4 = and_parts (slice_index bs (m - 6) == 249) _ b3.1 in
    let b5 = and_parts (nat_le (past_comment bs) q) _ b4.1 in
    let b6 = and_parts (nat_le (q + 29) (m - 6)) (slice_index bs q == 248) b5.1 in
    let long = leb-true (m + 4) (length bs) b1.0 in
    let before = leb-true (q + 29) (m - 6) b6.0 in
    let least = leb-true 1 (four bs 10) mag.0 in
    let most = leb-true (four bs 10) 32768 mag.1 in
    record {
      q = q;
      end = m - 6;
      is = sym is;
      fits = omega arith;
      chain = placed_none BrokenPages (broken_pointer bs q) a7.1;
      mag-least = subst (λ (x : Document). 1 ≤ x.mag) is least;
      mag-most = subst (λ (x : Document). x.mag ≤ 32768) is most;
    }

pub checked : (bs : List ℕ) (d : Document) → legal bs ≡ Ok d → Checked bs d
unfolding legal
checked bs d e = checked-by bs d (bare bs (length bs)) (four bs (bare bs (length bs) - 5)) e

-- ---- pages

module _ (bs : List ℕ) (q : ℕ) where
  next_page : (t limit place : ℕ) → broken_from bs q (suc t) limit place ≡ None → (four bs place + 45 ≤ q) × (broken_from bs q t (four bs place) (four bs place + 41) ≡ None)
  unfolding broken_from
  next_page t limit place e = by (leads bs q limit (four bs place)) refl e
    where
      by : (b : Bool) → leads bs q limit (four bs place) ≡ b → cond b (broken_from bs q t (four bs place) (four bs place + 41)) (Some place) ≡ None → (four bs place + 45 ≤ q) × (broken_from bs q t (four bs place) (four bs place + 41) ≡ None)
      by true p r =
          let a = and_parts (nat_le (past_comment bs) (four bs place)) _ p in
          let b = and_parts (nat_le (four bs place + 45) q) _ a.1 in
          (leb-true (four bs place + 45) q b.0, r)
      by false p r = absurd (let z : ◌≡◌ {A = ℕ} 0 1 = cc in omega arith)

  page_within : (t k limit place : ℕ) → k < t → broken_from bs q t limit place ≡ None → page_before bs k (four bs place) + 45 ≤ q
  unfolding page_before
  page_within zero k limit place h e = absurd (omega arith)
  page_within (suc t) zero limit place h e = (next_page t limit place e).0
  page_within (suc t) (suc k) limit place h e =
      let n = next_page t limit place e in
      page_within t k (four bs place) (four bs place + 41) (omega arith) n.1

-- a page of a legal document stands in it
pub page_stands : (bs : List ℕ) (d : Document) (n a : ℕ) → legal bs ≡ Ok d → page_place bs d n ≡ Some a → a + 45 ≤ length bs
unfolding page_place
page_stands bs d n a e found = by (nat_le 1 n && nat_le n d.pages) refl found
  where
    by : (b : Bool) → (nat_le 1 n && nat_le n d.pages) ≡ b → cond b (Some (page_before bs (d.pages - n) d.last)) None ≡ Some a → a + 45 ≤ length bs
    by false p r = absurd (let z : ◌≡◌ {A = ℕ} 0 1 = cc in omega arith)
    by true p r =
        let c = checked bs d e in
        let both = and_parts (nat_le 1 n) (nat_le n d.pages) p in
        let least = leb-true 1 n both.0 in
        let most = leb-true n d.pages both.1 in
        let here : page_before bs (d.pages - n) d.last ≡ a = cc in
        let pages : d.pages ≡ two bs (c.q + 27) = ap (λ (x : Document). x.pages) c.is in
        let last : d.last ≡ four bs (c.q + 1) = ap (λ (x : Document). x.last) c.is in
        let within = page_within bs c.q (two bs (c.q + 27)) (d.pages - n) c.q (c.q + 1) (omega arith) c.chain in
        let fits = c.fits in
        omega (arith, sym here ∙ ap (page_before bs (d.pages - n)) last)

-- a number of four bytes
four-small : (bs : List ℕ) → AreBytes bs → (p : ℕ) → four bs p < 2 ^ 32
unfolding four
four-small bs are p = omega (arith, are (p + 0), are (p + 1), are (p + 2), are (p + 3))

pub l-small : (bs : List ℕ) (d : Document) → AreBytes bs → legal bs ≡ Ok d → (d.l < 2 ^ 32) × (d.u < 2 ^ 32)
l-small bs d are e =
    let c = checked bs d e in
    (subst (λ (x : Document). x.l < 2 ^ 32) (sym c.is) (four-small bs are (c.q + 17)), subst (λ (x : Document). x.u < 2 ^ 32) (sym c.is) (four-small bs are (c.q + 21)))
