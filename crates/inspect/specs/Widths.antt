-- The width that a call answers.
use Rattle.std.specs.Prelude.{ℕ, ℤ, Ok, Err, Some, None, Option, Result}
use Rattle.shelf.specs.declared.refusals.Refusal.{Refusal}

abbrev pub width_answered : Result (ℕ × ℤ) Refusal → Option ℤ
width_answered (Ok p) = Some p.1
width_answered (Err e) = None
