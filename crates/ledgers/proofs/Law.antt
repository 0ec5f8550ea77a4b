-- The law over whole histories: what close promises. Assumes nothing.
use Rattle.std.proofs.Common.{◌≡◌, ℕ, ◌≤◌, List, length, take, sym, ap, ◌∙◌, subst, arith}
use Rattle.std.specs.List.{AllByRecursion}
use Rattle.shelf.specs.Alone.{faces_alone}
use Rattle.shelf.specs.Laws.{Lawful}
use Rattle.shelf.specs.Meaning.{Meaning}
use Rattle.copies.specs.Marks.{faces_of}
use Rattle.copies.specs.Files.{Opening, closed}
use Rattle.ledgers.specs.Sources.{Source}
use Rattle.ledgers.specs.Steps.{View, close, Answer, done, long, stepped}
use Rattle.ledgers.specs.Ledgers.{Ledger, Call, pages_of, come_by, ruled, ledger, rulings}
use Rattle.ledgers.specs.Histories.{History, ClosedFile, PageByPage, Promise, Faithful}
use Rattle.ledgers.proofs.Tracks.{Agree, agrees, tracks}
use Rattle.ledgers.proofs.Promised.{Ended, ended-by, closed-file}
use Rattle.ledgers.proofs.Again.{again-same}

module _ (v : View) (out left : List ℕ) (a : Answer) (left-is : left ≡ (stepped v close out).out) (answer-is : a ≡ (stepped v close out).answer) where
  module _ (m : Meaning) (law : Lawful m) (o : Opening) (cs : List Call) (as' : List Answer) (h : History m o cs as' v out) where
    abbrev es : List Source
    es = (ledger m o cs).sources

    ended : (n : ℕ) → a ≡ long n → Ended m o es n (stepped v close out)
    ended n p = ended-by m o cs as' v out h n (sym answer-is ∙ p)

    bytes : (n : ℕ) (p : a ≡ long n) → take n left ≡ closed (faces_of m) o (pages_of m o es)
    bytes n p = ap (take n) left-is ∙ (ended n p).bytes

    file : (n : ℕ) → a ≡ long n → ClosedFile m o es (take n left)
    file n p = let t = tracks m o h in closed-file m o law t.fitting es t.kept (ended n p).short (take n left) (bytes n p)

    again : (n : ℕ) → a ≡ long n → (cs2 : List Call) (as2 : List Answer) (v2 : View) (out2 : List ℕ) → History (faces_alone m) o cs2 as2 v2 out2 → PageByPage m o (take n left) n es cs2 → n ≤ length out2
        → AllByRecursion (λ x. x ≡ done) as2 × ((stepped v2 close out2).answer ≡ long n) × (take n (stepped v2 close out2).out ≡ take n left)
    again n p cs2 as2 v2 out2 h2 pages room =
        let e = ended n p in
        let t = tracks m o h in
        let is = e.length-is in
        let short = e.short in
        let r = again-same m o es t.kept (take n left) (file n p) cs2 as2 v2 out2 h2 (subst (λ k. PageByPage m o (take n left) k es cs2) is pages) short (omega arith) in
        (r.0, r.1 ∙ ap long (sym is), ap (λ k. take k (stepped v2 close out2).out) is ∙ r.2)

    pub promised : Promise m o cs as' (length out) left a
    promised =
        let t = tracks m o h in
        let b = ledger m o cs in
        let g : Agree m o b close (stepped v close out) (ruled m o b close (length out)) = rw t.run (agrees m o b.sources b.running close out t.kept t.has) in
        record {
          answers = t.answers;
          answer = answer-is ∙ g.answer;
          file = file;
          alike = λ cs2 as2 v2 out2 h2 equal n k p q. (ended-by m o cs2 as2 v2 out2 h2 k q).bytes ∙ ap (λ xs. closed (faces_of m) o (pages_of m o xs)) equal ∙ sym (bytes n p);
          again = again;
        }

  pub faithful : Faithful v out left a
  faithful m law o cs as' h = promised m law o cs as' h
