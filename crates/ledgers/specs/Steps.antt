-- What each call of a run leaves and answers, for every run and every output.
use Rattle.std.specs.Prelude.{ℕ, ◌+◌, ◌-◌, Bool, cond, ◌&&◌, List, [], length, Some, None, Ok, Err, Option, Result, ◌==◌, nat_le, nat_lt, slice_index}
use Rattle.shelf.specs.declared.refusals.Refusal.{Refusal}
use Rattle.shelf.specs.declared.refusals.Refusal.TheVariants.{RunClosed, OutputFull, BadOutput}
use Rattle.shelf.specs.Meaning.{Meaning}
use Rattle.document.specs.declared.documents.Document.{Document}
use Rattle.document.specs.Bytes.{four, no_page}
use Rattle.document.specs.Legal.{legal}
use Rattle.copies.specs.Marks.{faces_of}
use Rattle.copies.specs.Pages.{Progress, page_bytes}
use Rattle.copies.specs.Files.{Opening, front_bytes, closing_bytes, closed_length, begun}
use Rattle.copies.specs.Writing.{overwritten}
use Rattle.pairs.specs.Tables.{defined_before}
use Rattle.ledgers.specs.Sources.{Source, page_of}
use Rattle.ledgers.specs.Rules.{copy_refusal, strike_refusal, close_refusal, with_source}

-- a run: what its shelf means, what it took from the document that it was opened on, and how far it has come; none once it is closed
pub record View : Type 0 where
  pub means : Meaning
  pub opening : Opening
  pub come : Option Progress

-- a call: a copy into a mark list of so many entries, a strike, or a close. A chain list changes no answer.
pub data Act : Type 0 where
  copy : Source → ℕ → Act
  strike : Act
  close : Act

-- accepted, and by close with the length of the file; or refused
pub data Answer : Type 0 where
  done : Answer
  long : ℕ → Answer
  refused : Refusal → Answer

-- what a call leaves and answers
pub record Seen : Type 0 where
  pub run : View
  pub out : List ℕ
  pub answer : Answer

abbrev pub seen : View → List ℕ → Answer → Seen
seen v out a = record { run = v; out = out; answer = a }

-- refused, all stays
abbrev pub unless : View → List ℕ → Option Refusal → Seen → Seen
unless v out None s = s
unless v out (Some e) s = seen v out (refused e)

abbrev pub moved_on : View → Option Progress → View
moved_on v g = record { means = v.means; opening = v.opening; come = g }

-- a pointer to the page before the last: -1 where there is none, or else behind the preamble, with its 46 bytes before the last
abbrev pub is_pointer : Progress → ℕ → Bool
is_pointer g p = cond (g.count == 1) (p == no_page) (nat_le 15 p && nat_le (p + 46) g.last)

-- the pointer of the last page, as it stands in the output
abbrev pub pointer_back : Progress → List ℕ → Option ℕ
pointer_back g out = cond (slice_index out g.last == 139 && is_pointer g (four out (g.last + 41))) (Some (four out (g.last + 41))) None

-- without its last page, before which stands the page that the pointer leads to; pairs defined from the last page on are forgotten
abbrev pub without_last : Progress → ℕ → Progress
without_last g p = record { used = g.last; last = p; count = g.count - 1; pairs = defined_before g.last g.pairs }

abbrev pub struck_to : View → Progress → List ℕ → Option ℕ → Seen
struck_to v g out None = seen v out (refused BadOutput)
struck_to v g out (Some p) = seen (moved_on v (Some (without_last g p))) out done

abbrev pub on_open : View → Progress → Act → List ℕ → Seen
on_open v g (copy s marks) out =
    unless v out (copy_refusal v.means v.opening g s marks (length out))
    (seen (moved_on v (Some (with_source v.means v.opening g s))) (overwritten g.used (page_bytes (faces_of v.means) g (page_of v.opening.mag v.means s)) out) done)
on_open v g strike out = unless v out (strike_refusal g (length out)) (struck_to v g out (pointer_back g out))
on_open v g close out =
    unless v out (close_refusal (faces_of v.means) v.opening g (length out))
    (seen (moved_on v None) (overwritten g.used (closing_bytes (faces_of v.means) v.opening g) out) (long (closed_length (faces_of v.means) v.opening g)))

abbrev pub stepped_by : View → Option Progress → Act → List ℕ → Seen
stepped_by v None c out = seen v out (refused RunClosed)
stepped_by v (Some g) c out = on_open v g c out

abbrev pub stepped : View → Act → List ℕ → Seen
stepped v c out = stepped_by v v.come c out

-- an opening: the run or the refusal, and the output
pub record Begun : Type 0 where
  pub run : Result View Refusal
  pub out : List ℕ

abbrev pub opening_by : Document → Opening
opening_by d = record { mag = d.mag; l = d.l; u = d.u }

abbrev pub fresh : Meaning → Opening → View
fresh m o = record { means = m; opening = o; come = Some begun }

abbrev pub beginning_by : Meaning → List ℕ → Result Document Refusal → Begun
beginning_by m out (Err e) = record { run = Err e; out = out }
beginning_by m out (Ok d) =
    cond (nat_lt (length out) 56) (record { run = Err OutputFull; out = out })
    (record { run = Ok (fresh m (opening_by d)); out = overwritten 0 (front_bytes d.mag) out })

abbrev pub beginning : Meaning → List ℕ → List ℕ → Begun
beginning m document out = beginning_by m out (legal document)
