use Rattle.std.proofs.Common.{refl, arith, rules}
use Rattle.std.proofs.lemmas.Int.{to_z-of_z}
use Rattle.shelf.specs.Served.{by-full, by_one}
use Rattle.shelf.proofs.putting.put_mark.Goals as goal

pub returns-then-is_empty : goal.returns-then-is_empty
returns-then-is_empty c = λ chain. by-full _ chain _ _ _ refl (search rules)

pub returns : goal.returns
returns c = let f = c.ranges.width in λ chain. simp to_z-of_z (by_one _ chain _ _ _ refl (grind arith))
