-- A code that no call can be given: the checks before it come first.
use Rattle.std.specs.Prelude.{ℤ, Ok, Err, Result}
use Rattle.shelf.specs.declared.refusals.Cause.{Cause}
use Rattle.shelf.specs.declared.refusals.Cause.TheVariants.{NoCode}

abbrev pub cause_before_code : Result (ℤ × ℤ) Cause → Cause
cause_before_code (Ok p) = NoCode
cause_before_code (Err cause) = cause
