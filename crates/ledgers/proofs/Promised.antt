-- What close promises of every history that led to it, but for the copy of the closed file. Assumes nothing.
use Rattle.std.proofs.Common.{◌≡◌, ℕ, zero, suc, ◌+◌, ◌-◌, ◌<◌, ◌≤◌, Bool, true, false, cond, List, [], ◌∷◌, ◌++◌, length, take, Some, None, Ok, Err, Option, Result, sym, refl, ap, ◌∙◌, subst, arith}
use Rattle.std.specs.Prelude.{map}
use Rattle.std.specs.Option.{option_or}
use Rattle.std.specs.List.{slice_get}
use Rattle.std.proofs.lemmas.List.{length-map}
use Rattle.shelf.specs.declared.refusals.Refusal.{Refusal}
use Rattle.shelf.specs.declared.refusals.Refusal.TheVariants.{RunClosed}
use Rattle.shelf.specs.Alone.{faces_alone}
use Rattle.shelf.specs.Laws.{Lawful}
use Rattle.shelf.specs.Meaning.{Meaning, Facts}
use Rattle.shelf.specs.Outcomes.{well, ends}
use Rattle.document.specs.Legal.{legal}
use Rattle.copies.specs.Marks.{faces_of}
use Rattle.copies.specs.Pages.{Page, Progress}
use Rattle.copies.specs.Files.{Opening, closed_length, closing_bytes, progress, body, closed}
use Rattle.copies.specs.Writing.{overwritten}
use Rattle.closedfiles.specs.Closed.{Writable, Reads, statement}
use Rattle.closedfiles.proofs.Pages.{all_read}
use Rattle.ledgers.specs.Sources.{Source, sourced, page_of}
use Rattle.copies.specs.Limits.{usable, unfit}
use Rattle.ledgers.specs.Rules.{too_short, close_refusal}
use Rattle.ledgers.specs.Steps.{View, Act, close, Answer, done, long, refused, Seen, seen, unless, moved_on, stepped}
use Rattle.ledgers.specs.Ledgers.{Ledger, Call, pages_of, come_by, ruling, ruled, ledger, rulings}
use Rattle.ledgers.specs.Histories.{used, History, SameRead, ClosedFile}
use Rattle.ledgers.proofs.Kept.{or_none, Taken, Kept, Fitting, fits_of, closed-long, writable}
use Rattle.ledgers.proofs.Outputs.{take-overwritten}
use Rattle.ledgers.proofs.Tracks.{expected, Holds, Has, Agree, agrees, Tracks, tracks}

nth_map : {X Y : Type 0} (f : X → Y) (xs : List X) (i : ℕ) (x : X) → slice_get xs i ≡ Some x → slice_get (map f xs) i ≡ Some (f x)
nth_map f [] i x e = absurd (let z : ◌≡◌ {A = ℕ} 0 1 = cc in omega arith)
nth_map f (y ∷ xs) zero x e = let same : y ≡ x = cc in ap (λ z. Some (f z)) same
nth_map f (y ∷ xs) (suc i) x e = nth_map f xs i x e

module _ (m : Meaning) (o : Opening) where
  abbrev F : ℕ → Facts
  F = faces_of m

  abbrev file : List Source → List ℕ
  file es = closed F o (pages_of m o es)

  taken-at : (es : List Source) (i : ℕ) (s : Source) → Kept m o es → slice_get es i ≡ Some s → sourced o.mag m s ≡ Ok (ends (page_of o.mag m s).marks (well tt))
  taken-at [] i s k e = absurd (let z : ◌≡◌ {A = ℕ} 0 1 = cc in omega arith)
  taken-at (x ∷ es) zero s k e =
      let same : x ≡ s = cc in
      subst (λ (y : Source). sourced o.mag m y ≡ Ok (ends (page_of o.mag m y).marks (well tt))) same k.0.read
  taken-at (x ∷ es) (suc i) s k e = taken-at es i s k.1 e

  -- the closed file of sources that were taken
  pub closed-file : Lawful m → Fitting m o → (es : List Source) → Kept m o es → closed_length F o (come_by m o es) ≤ 16777216 → (bs : List ℕ) → bs ≡ file es → ClosedFile m o es bs
  closed-file law fit es k short bs e = subst (ClosedFile m o es) (sym e) whole
    where
      w : Writable m o (pages_of m o es)
      w = writable m o law fit es k short

      reads : Reads m o (pages_of m o es)
      reads = all_read m law o (pages_of m o es) w

      count : length (pages_of m o es) ≡ length es
      count = length-map es (page_of o.mag m)

      same : (n : ℕ) (s : Source) → 1 ≤ n → n ≤ length es → slice_get es (length es - n) ≡ Some s → SameRead m o (file es) (statement F o (pages_of m o es)) n s
      same n s least most is =
          let there : slice_get (pages_of m o es) (length (pages_of m o es) - n) ≡ Some (page_of o.mag m s) =
          ap (λ c. slice_get (pages_of m o es) (c - n)) count ∙ nth_map (page_of o.mag m) es (length es - n) s is in
          let p = reads.pages n (page_of o.mag m s) least (omega (arith, count)) there in
          record { place = p.0; place-is = p.1; counts = p.2; source = taken-at es (length es - n) s k is; marks = p.3 }

      whole : ClosedFile m o es (file es)
      whole = record { bytes = refl; is-legal = reads.is-legal; pages = same }

  -- ---- what an accepted close leaves

  pub record Ended (es : List Source) (n : ℕ) (s : Seen) : Type 0 where
    pub length-is : n ≡ closed_length F o (come_by m o es)
    pub short : closed_length F o (come_by m o es) ≤ 16777216
    pub bytes : take n s.out ≡ file es

  abbrev Ends : List Source → Seen → Type 0
  Ends es s = (n : ℕ) → s.answer ≡ long n → Ended es n s

  ends_not : (es : List Source) (v : View) (out : List ℕ) (e : Refusal) → Ends es (seen v out (refused e))
  ends_not es v out e n p = absurd (let z : ◌≡◌ {A = ℕ} 0 1 = cc in omega arith)

  ends_whole : (es : List Source) (v : View) (out : List ℕ) → Kept m o es → Holds m o es out → close_refusal F o (come_by m o es) (length out) ≡ None → Ends es (seen v (overwritten (come_by m o es).used (closing_bytes F o (come_by m o es)) out) (long (closed_length F o (come_by m o es))))
  unfolding closed
  ends_whole es v out k h e n p =
      let g = come_by m o es in
      let a = or_none (too_short g (length out)) (unfit F o g (usable (length out))) e in
      let f = fits_of m o F g (usable (length out)) a.1 in
      let is : n ≡ closed_length F o g = cc in
      record {
        length-is = is;
        short = omega (arith, f);
        bytes = take-overwritten g.used (closing_bytes F o g) out (omega (arith, f)) n is ∙ ap (λ x. x ++ closing_bytes F o g) h.held;
      }

  ends_open : (es : List Source) (out : List ℕ) → Kept m o es → Holds m o es out → Ends es (stepped (expected m o (record { sources = es; running = true })) close out)
  ends_open es out k h = by (close_refusal F o (come_by m o es) (length out)) refl
    where
      by : (r : Option Refusal) → close_refusal F o (come_by m o es) (length out) ≡ r → Ends es (unless (expected m o (record { sources = es; running = true })) out r (seen (moved_on (expected m o (record { sources = es; running = true })) None) (overwritten (come_by m o es).used (closing_bytes F o (come_by m o es)) out) (long (closed_length F o (come_by m o es)))))
      by (Some x) q = ends_not es (expected m o (record { sources = es; running = true })) out x
      by None q = ends_whole es (moved_on (expected m o (record { sources = es; running = true })) None) out k h q

  ends_by : (es : List Source) (r : Bool) (out : List ℕ) → Kept m o es → Has m o es r out → Ends es (stepped (expected m o (record { sources = es; running = r })) close out)
  ends_by es true out k h = ends_open es out k h
  ends_by es false out k h = ends_not es (expected m o (record { sources = es; running = false })) out RunClosed

  -- a history's close leaves the file of its ledger
  pub ended-by : (cs : List Call) (as' : List Answer) (v : View) (out : List ℕ) → History m o cs as' v out → (n : ℕ) → (stepped v close out).answer ≡ long n → Ended (ledger m o cs).sources n (stepped v close out)
  ended-by cs as' v out h =
      let t = tracks m o h in
      let b = ledger m o cs in
      subst (λ (w : View). Ends b.sources (stepped w close out)) (sym t.run) (ends_by b.sources b.running out t.kept t.has)
