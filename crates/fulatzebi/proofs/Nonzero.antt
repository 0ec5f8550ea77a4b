-- No refusal has the number of an accepted call. Assumes nothing.
use Rattle.std.proofs.Common.{◌≡◌, arith}
use Rattle.shelf.specs.declared.refusals.Cause.{Cause}
use Rattle.shelf.specs.declared.refusals.Cause.TheVariants.{NotAllowed, PastEnd, Frames, NoFont, NoName, NoCode, OutOfRange, BadSize}
use Rattle.shelf.specs.declared.refusals.Refusal.{Refusal}
use Rattle.shelf.specs.declared.refusals.Refusal.TheVariants.{DocumentLength, NotDocument, WrongUnits, BrokenEnding, BrokenPages, BrokenPostamble, BrokenTfm, BrokenVf, ShelfFull, TfmName, VfName, NotBelow, Fault, MarksFull, RunClosed, NoPage, OtherMag, PairsFull, OutputFull, NothingToStrike, BadOutput}
use Rattle.shelf.specs.Refusals.{cause_number, returned}
use Rattle.fulatzebi.specs.declared.stops.Why.{Why}
use Rattle.fulatzebi.specs.declared.stops.Why.TheVariants.{Refused, NoMemory, BadRecord}
use Rattle.fulatzebi.specs.Answers.{why_number}

of_cause : (k : Cause) → cause_number k ≡ 0 → ⊥
of_cause NotAllowed p = absurd (omega (arith, p))
of_cause PastEnd p = absurd (omega (arith, p))
of_cause Frames p = absurd (omega (arith, p))
of_cause NoFont p = absurd (omega (arith, p))
of_cause NoName p = absurd (omega (arith, p))
of_cause NoCode p = absurd (omega (arith, p))
of_cause OutOfRange p = absurd (omega (arith, p))
of_cause BadSize p = absurd (omega (arith, p))

of_refusal : (e : Refusal) → (returned e).number ≡ 0 → ⊥
of_refusal (DocumentLength n) p = absurd (omega (arith, p))
of_refusal (NotDocument n) p = absurd (omega (arith, p))
of_refusal (WrongUnits n) p = absurd (omega (arith, p))
of_refusal (BrokenEnding n) p = absurd (omega (arith, p))
of_refusal (BrokenPages n) p = absurd (omega (arith, p))
of_refusal (BrokenPostamble n) p = absurd (omega (arith, p))
of_refusal (BrokenTfm n) p = absurd (omega (arith, p))
of_refusal (BrokenVf n) p = absurd (omega (arith, p))
of_refusal ShelfFull p = absurd (omega (arith, p))
of_refusal (TfmName n) p = absurd (omega (arith, p))
of_refusal VfName p = absurd (omega (arith, p))
of_refusal (NotBelow n) p = absurd (omega (arith, p))
of_refusal (Fault k n) p = of_cause k p
of_refusal MarksFull p = absurd (omega (arith, p))
of_refusal RunClosed p = absurd (omega (arith, p))
of_refusal NoPage p = absurd (omega (arith, p))
of_refusal OtherMag p = absurd (omega (arith, p))
of_refusal PairsFull p = absurd (omega (arith, p))
of_refusal OutputFull p = absurd (omega (arith, p))
of_refusal NothingToStrike p = absurd (omega (arith, p))
of_refusal BadOutput p = absurd (omega (arith, p))

pub nonzero : (w : Why) → why_number w ≡ 0 → ⊥
nonzero (Refused e) p = of_refusal e p
nonzero NoMemory p = absurd (omega (arith, p))
nonzero BadRecord p = absurd (omega (arith, p))
