-- The table of the pages' places: filled from the last back to the first. Assumes nothing.
use Rattle.std.proofs.Common.{◌≡◌, ℕ, zero, suc, ◌+◌, ◌-◌, ◌<◌, ◌≤◌, ◌⊎◌, List, length, Some, sym, refl, ap, ◌∙◌, inl, inr, arith, slice_set}
use Rattle.std.specs.Prelude.{slice_index}
use Rattle.std.proofs.lemmas.List.{get_or-set_same, get_or-set_other, length-set}
use Rattle.std.proofs.lemmas.Bool.{cases_lt, le-leb}
use Rattle.document.specs.declared.documents.Document.{Document}
use Rattle.document.specs.Bytes.{four}
use Rattle.document.specs.Pages.{page_before, page_place}
use Rattle.document.specs.Places.{Placed}

-- one page further back
one_back : (bs : List ℕ) (k a : ℕ) → page_before bs (suc k) a ≡ four bs (page_before bs k a + 41)
unfolding page_before
one_back bs zero a = refl
one_back bs (suc k) a = one_back bs k (four bs (a + 41))

-- the places from `left` on stand in the table, and `place` is the next
pub record Filled (bs : List ℕ) (d : Document) (left place : ℕ) (was table : List ℕ) : Type 0 where
  pub within : left ≤ d.pages
  pub long : length table ≡ length was
  pub next : place ≡ page_before bs (d.pages - left) d.last
  pub stand : (n : ℕ) → left ≤ n → n < d.pages → slice_index table n ≡ page_before bs (d.pages - (n + 1)) d.last

pub filled_start : (bs : List ℕ) (d : Document) (was : List ℕ) → Filled bs d d.pages d.last was was
unfolding page_before
filled_start bs d was =
    let e : d.pages - d.pages ≡ 0 = omega arith in
    record { within = omega arith; long = refl; next = rw e refl; stand = λ n a b. absurd (omega arith) }

module _ (bs : List ℕ) (d : Document) (was : List ℕ) (room : d.pages ≤ length was) where
  stand_more : (left place : ℕ) (table : List ℕ) → 0 < left → Filled bs d left place was table → (n : ℕ) → left - 1 ≤ n → n < d.pages → (n ≡ left - 1) ⊎ (left ≤ n)
      → slice_index (slice_set table (left - 1) place) n ≡ page_before bs (d.pages - (n + 1)) d.last
  stand_more left place table some f n low high (inl e) =
      let k : d.pages - left ≡ d.pages - (n + 1) = omega (arith, e) in
      ap (slice_index (slice_set table (left - 1) place)) e ∙ get_or-set_same table (left - 1) place 0 (omega (arith, f.within, f.long, room)) ∙ f.next ∙ ap (λ x. page_before bs x d.last) k
  stand_more left place table some f n low high (inr le) =
      get_or-set_other table (left - 1) n place 0 (λ e. omega (arith, e, le)) ∙ f.stand n le high

  pub filled_more : (left place next : ℕ) (table : List ℕ) → 0 < left → next ≡ four bs (place + 41) → Filled bs d left place was table → Filled bs d (left - 1) next was (slice_set table (left - 1) place)
  filled_more left place next table some e f =
      let k : suc (d.pages - left) ≡ d.pages - (left - 1) = omega (arith, f.within) in
      record {
        within = omega (arith, f.within);
        long = length-set table (left - 1) place ∙ f.long;
        next = e ∙ ap (λ x. four bs (x + 41)) f.next ∙ sym (one_back bs (d.pages - left) d.last) ∙ ap (λ x. page_before bs x d.last) k;
        stand = λ n low high. stand_more left place table some f n low high (last_or_more left n low);
      }
    where
      by_cases : (left n : ℕ) → left - 1 ≤ n → (n < left) ⊎ (left ≤ n) → (n ≡ left - 1) ⊎ (left ≤ n)
      by_cases left n low (inl lt) = inl (omega arith)
      by_cases left n low (inr le) = inr le

      last_or_more : (left n : ℕ) → left - 1 ≤ n → (n ≡ left - 1) ⊎ (left ≤ n)
      last_or_more left n low = by_cases left n low (cases_lt n left)

  pub filled-all : (left place : ℕ) (table : List ℕ) → left ≡ 0 → Filled bs d left place was table → Placed bs d table
  filled-all left place table e f n lt = (omega (arith, f.long, room), f.stand n (omega arith) lt)

-- the place of page n
pub placed_at : (bs : List ℕ) (d : Document) (ps : List ℕ) (n : ℕ) → Placed bs d ps → 1 ≤ n → n ≤ d.pages → (n - 1 < length ps) × (Some (slice_index ps (n - 1)) ≡ page_place bs d n)
unfolding page_place
placed_at bs d ps n placed low high =
    let k : n - 1 + 1 ≡ n = omega arith in
    let p = placed (n - 1) (omega arith) in
    (p.0, ap Some (p.1 ∙ ap (λ x. page_before bs (d.pages - x) d.last) k) ∙ sym (rw (le-leb 1 n low, le-leb n d.pages high) refl))
