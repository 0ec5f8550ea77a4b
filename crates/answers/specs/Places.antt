-- The places that refusals return.
use Rattle.std.specs.Prelude.{ℕ, Some, None, Option}
use Rattle.shelf.specs.declared.refusals.Refusal.{Refusal}
use Rattle.shelf.specs.declared.refusals.Refusal.TheVariants.{NotDocument, WrongUnits, BrokenPages, BrokenPostamble, BrokenVf, NotBelow}

abbrev pub place_in : Refusal → Option ℕ
place_in (NotDocument place) = Some place
place_in (WrongUnits place) = Some place
place_in (BrokenPages place) = Some place
place_in (BrokenPostamble place) = Some place
place_in (BrokenVf place) = Some place
place_in (NotBelow place) = Some place
place_in _ = None
