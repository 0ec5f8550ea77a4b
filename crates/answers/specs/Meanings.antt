-- What each refusal means, in plain words.
use Rattle.std.specs.Prelude.{ℕ, List, codes}
use Rattle.shelf.specs.declared.refusals.Cause.{Cause}
use Rattle.shelf.specs.declared.refusals.Cause.TheVariants.{NotAllowed, PastEnd, Frames, NoFont, NoName, NoCode, OutOfRange, BadSize}
use Rattle.shelf.specs.declared.refusals.Refusal.{Refusal}
use Rattle.shelf.specs.declared.refusals.Refusal.TheVariants.{DocumentLength, NotDocument, WrongUnits, BrokenEnding, BrokenPages, BrokenPostamble, BrokenTfm, BrokenVf, ShelfFull, TfmName, VfName, NotBelow, Fault, MarksFull, RunClosed, NoPage, OtherMag, PairsFull, OutputFull, NothingToStrike, BadOutput}

abbrev pub cause_words : Cause → List ℕ
cause_words NotAllowed = codes "a command is not allowed here"
cause_words PastEnd = codes "a command runs past the end"
cause_words Frames = codes "a 65th frame is pushed, none is left to pop, or some are left at the end"
cause_words NoFont = codes "the font is undefined, or none is selected"
cause_words NoName = codes "the font's name is not on the shelf"
cause_words NoCode = codes "the font has no such code"
cause_words OutOfRange = codes "a position is out of range"
cause_words BadSize = codes "a fix_word or a size is bad"

abbrev pub refusal_words : Refusal → List ℕ
refusal_words (DocumentLength length) = codes "the document has fewer than 54 or more than 16,777,216 bytes"
refusal_words (NotDocument place) = codes "the document does not begin as DVI"
refusal_words (WrongUnits place) = codes "num, den or mag is wrong, or differs between preamble and postamble"
refusal_words (BrokenEnding length) = codes "the document's ending is broken"
refusal_words (BrokenPages place) = codes "the chain of pages is broken"
refusal_words (BrokenPostamble place) = codes "a command of the postamble is broken"
refusal_words (BrokenTfm entry) = codes "broken TFM file"
refusal_words (BrokenVf place) = codes "broken VF file"
refusal_words ShelfFull = codes "the shelf or rank is full"
refusal_words (TfmName entry) = codes "the font's name is bad or taken"
refusal_words VfName = codes "the font's name is bad or taken"
refusal_words (NotBelow place) = codes "a local font is not on the shelf below"
refusal_words (Fault cause links) = cause_words cause
refusal_words MarksFull = codes "the mark list is full"
refusal_words RunClosed = codes "the run is closed"
refusal_words NoPage = codes "there is no such page"
refusal_words OtherMag = codes "the document has another magnification"
refusal_words PairsFull = codes "the output would need a 65th pair of face and size"
refusal_words OutputFull = codes "the output would not fit, or have a 65,536th page"
refusal_words NothingToStrike = codes "there is no page to strike"
refusal_words BadOutput = codes "the output buffer does not hold the run"
