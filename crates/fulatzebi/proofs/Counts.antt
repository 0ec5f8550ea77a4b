-- A count as a number of 32 bits keeps its value. Assumes nothing.
use Rattle.std.proofs.Common.{◌≡◌, ℤ, to_z, of_z, w32, ◌∙◌}
use Rattle.std.proofs.Math.Facts.{to_z-of_z}
use Rattle.std.specs.Prelude.{FitsSigned}

pub counted : (z y : ℤ) → FitsSigned w32 z → z ≡ y → to_z w32 (of_z w32 z) ≡ y
counted z y f e = to_z-of_z f ∙ e
