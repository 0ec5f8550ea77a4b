-- The bytes of a name.
use Rattle.std.specs.Prelude.{ℕ, List, take}
use Rattle.shelf.specs.declared.names.Name.{Name}

abbrev pub spelled : Name → List ℕ
spelled n = take n.count n.bytes
