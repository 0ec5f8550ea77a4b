-- Each refusal's number, and what is returned beside it: a length, place or entry, or how many links the chain has.
use Rattle.std.specs.Prelude.{ℕ, Some, None, Option}
use Rattle.shelf.specs.declared.refusals.Cause.{Cause}
use Rattle.shelf.specs.declared.refusals.Cause.TheVariants.{NotAllowed, PastEnd, Frames, NoFont, NoName, NoCode, OutOfRange, BadSize}
use Rattle.shelf.specs.declared.refusals.Refusal.{Refusal}
use Rattle.shelf.specs.declared.refusals.Refusal.TheVariants.{DocumentLength, NotDocument, WrongUnits, BrokenEnding, BrokenPages, BrokenPostamble, BrokenTfm, BrokenVf, ShelfFull, TfmName, VfName, NotBelow, Fault, MarksFull, RunClosed, NoPage, OtherMag, PairsFull, OutputFull, NothingToStrike, BadOutput}

abbrev pub cause_number : Cause → ℕ
cause_number NotAllowed = 11
cause_number PastEnd = 12
cause_number Frames = 13
cause_number NoFont = 14
cause_number NoName = 15
cause_number NoCode = 16
cause_number OutOfRange = 17
cause_number BadSize = 18

-- what a refusal returns
pub record Returned : Type 0 where
  pub number : ℕ
  pub value : Option ℕ
  pub links : Option ℕ

abbrev alone : ℕ → Returned
alone n = record { number = n; value = None; links = None }

-- beside a length, a place or an entry
abbrev beside : ℕ → ℕ → Returned
beside n v = record { number = n; value = Some v; links = None }

abbrev chained : ℕ → ℕ → Returned
chained n l = record { number = n; value = None; links = Some l }

abbrev pub returned : Refusal → Returned
returned (DocumentLength length) = beside 1 length
returned (NotDocument place) = beside 2 place
returned (WrongUnits place) = beside 3 place
returned (BrokenEnding length) = beside 4 length
returned (BrokenPages place) = beside 5 place
returned (BrokenPostamble place) = beside 6 place
returned (BrokenTfm entry) = beside 7 entry
returned (BrokenVf place) = beside 7 place
returned ShelfFull = alone 8
returned (TfmName entry) = beside 9 entry
returned VfName = alone 9
returned (NotBelow place) = beside 10 place
returned (Fault cause links) = chained (cause_number cause) links
returned MarksFull = alone 19
returned RunClosed = alone 20
returned NoPage = alone 21
returned OtherMag = alone 22
returned PairsFull = alone 23
returned OutputFull = alone 24
returned NothingToStrike = alone 25
returned BadOutput = alone 26
