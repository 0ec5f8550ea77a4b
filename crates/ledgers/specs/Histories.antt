-- The law over whole histories: what a run is after any calls, and what its closed file says.
use Rattle.std.specs.Prelude.{◌≡◌, ℕ, ◌-◌, ◌<◌, ◌≤◌, List, [], ◌∷◌, length, take, Some, None, Ok, Err, Option, Result, slice_index}
use Rattle.std.specs.List.{AllByRecursion, slice_get}
use Rattle.shelf.specs.declared.refusals.Refusal.{Refusal}
use Rattle.shelf.specs.Alone.{faces_alone}
use Rattle.shelf.specs.Laws.{Lawful}
use Rattle.shelf.specs.Meaning.{Meaning}
use Rattle.shelf.specs.Outcomes.{well, ends}
use Rattle.document.specs.declared.documents.Document.{Document}
use Rattle.document.specs.Legal.{legal}
use Rattle.document.specs.Pages.{page_place}
use Rattle.reading.specs.Reading.{reading, counts_at}
use Rattle.copies.specs.Marks.{faces_of}
use Rattle.copies.specs.Pages.{Page, Progress}
use Rattle.copies.specs.Files.{Opening, closed}
use Rattle.closedfiles.specs.Closed.{statement}
use Rattle.ledgers.specs.Sources.{Source, sourced, page_of}
use Rattle.ledgers.specs.Steps.{View, Act, copy, close, Answer, done, long, refused, Seen, stepped, opening_by, beginning}
use Rattle.ledgers.specs.Ledgers.{Ledger, Call, pages_of, ruled, ledger, rulings}

-- how many bytes of its output are a run's
abbrev in_use : Option Progress → ℕ
in_use (Some g) = g.used
in_use None = 0

abbrev pub used : View → ℕ
used v = in_use v.come

-- every number is a byte's
abbrev pub AreBytes : List ℕ → Type 0
AreBytes bs = (i : ℕ) → slice_index bs i < 256

-- What a run has been through that was opened, over a shelf of this meaning, with this opening: its calls and their answers, the
-- newest first, what it now is, and what its output holds.
pub data History (m : Meaning) (o : Opening) : List Call → List Answer → View → List ℕ → Type 0 where
  -- it was opened on a document
  opened : (document out : List ℕ) (d : Document) (v : View) → AreBytes document → legal document ≡ Ok d → opening_by d ≡ o → (beginning m document out).run ≡ Ok v → History m o [] [] v (beginning m document out).out
  -- a call was made with the output as it was left
  called : {cs : List Call} {as' : List Answer} {v : View} {out : List ℕ} → History m o cs as' v out → (c : Act) → History m o (record { act = c; room = length out } ∷ cs) ((stepped v c out).answer ∷ as') (stepped v c out).run (stepped v c out).out
  -- the caller goes on with another output that holds the run's bytes
  moved : {cs : List Call} {as' : List Answer} {v : View} {out : List ℕ} → History m o cs as' v out → (other : List ℕ) → used v ≤ length other → take (used v) other ≡ take (used v) out → History m o cs as' v other
  -- a call was made with an output below the run's length
  short : {cs : List Call} {as' : List Answer} {v : View} {out : List ℕ} → History m o cs as' v out → (other : List ℕ) → length other < used v → (c : Act) → History m o (record { act = c; room = length other } ∷ cs) ((stepped v c other).answer ∷ as') (stepped v c other).run out

-- page n of a file reads over the faces alone as a source does over the shelf: the same ten counts, the same marks
pub record SameRead (m : Meaning) (o : Opening) (file : List ℕ) (d : Document) (n : ℕ) (s : Source) : Type 0 where
  pub place : ℕ
  pub place-is : page_place file d n ≡ Some place
  pub counts : counts_at file place ≡ (page_of o.mag m s).counts
  pub source : sourced o.mag m s ≡ Ok (ends (page_of o.mag m s).marks (well tt))
  pub marks : reading (faces_alone m) file n ≡ Ok (ends (page_of o.mag m s).marks (well tt))

-- the closed file of a ledger's sources: its bytes, that it is legal, its pages
pub record ClosedFile (m : Meaning) (o : Opening) (es : List Source) (file : List ℕ) : Type 0 where
  pub bytes : file ≡ closed (faces_of m) o (pages_of m o es)
  pub is-legal : legal file ≡ Ok (statement (faces_of m) o (pages_of m o es))
  pub pages : (n : ℕ) (s : Source) → 1 ≤ n → n ≤ length es → slice_get es (length es - n) ≡ Some s → SameRead m o file (statement (faces_of m) o (pages_of m o es)) n s

-- calls that copy the pages of a file one by one, the newest first, each into a list that has room for its marks and an output of so many bytes
abbrev pub PageByPage : Meaning → Opening → List ℕ → ℕ → List Source → List Call → Type 0
PageByPage m o file n [] [] = Unit {0}
PageByPage m o file n [] (c ∷ cs) = ⊥
PageByPage m o file n (s ∷ es) [] = ⊥
PageByPage m o file n (s ∷ es) (c ∷ cs) =
    ((marks : ℕ) × (c.act ≡ copy (record { document = file; page = length (s ∷ es) }) marks) × (length (page_of o.mag m s).marks ≤ marks) × (n ≤ c.room)) × PageByPage m o file n es cs

-- what close promises of a history that led to it
pub record Promise (m : Meaning) (o : Opening) (cs : List Call) (as' : List Answer) (room : ℕ) (left : List ℕ) (a : Answer) : Type 0 where
  -- each call so far was answered by the rules, from the arguments alone, and so is this one
  pub answers : as' ≡ rulings m o cs
  pub answer : a ≡ ruled m o (ledger m o cs) close room
  -- the file is the ledger's
  pub file : (n : ℕ) → a ≡ long n → ClosedFile m o (ledger m o cs).sources (take n left)
  -- another run, opened alike, with an equal ledger, closes to the same bytes
  pub alike : (cs2 : List Call) (as2 : List Answer) (v2 : View) (out2 : List ℕ) → History m o cs2 as2 v2 out2 → (ledger m o cs2).sources ≡ (ledger m o cs).sources → (n k : ℕ) → a ≡ long n → (stepped v2 close out2).answer ≡ long k → take k (stepped v2 close out2).out ≡ take n left
  -- copied page by page over the faces alone, given the space, the file comes out the same
  pub again : (n : ℕ) → a ≡ long n → (cs2 : List Call) (as2 : List Answer) (v2 : View) (out2 : List ℕ) → History (faces_alone m) o cs2 as2 v2 out2 → PageByPage m o (take n left) n (ledger m o cs).sources cs2 → n ≤ length out2
      → AllByRecursion (λ x. x ≡ done) as2 × ((stepped v2 close out2).answer ≡ long n) × (take n (stepped v2 close out2).out ≡ take n left)

-- the law: whatever calls led here, over whatever lawful shelf
abbrev pub Faithful : View → List ℕ → List ℕ → Answer → Type 0
Faithful v out left a = (m : Meaning) → Lawful m → (o : Opening) (cs : List Call) (as' : List Answer) → History m o cs as' v out → Promise m o cs as' (length out) left a
