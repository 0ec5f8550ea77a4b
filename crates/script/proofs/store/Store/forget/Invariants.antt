use Rattle.std.proofs.Common.{◌≡◌, ◌<◌, ℕ, [], get_or, length}
use Rattle.std.specs.Vec.{vec_items}
use Rattle.script.proofs.store.Store.forget.Given as goal

abbrev pub invariant-loop-i : goal.invariant-loop-i
invariant-loop-i l = record { long : length l.self.lists ≡ 8; emptied : (k : ℕ) (d : _) → k < l.i → vec_items (get_or l.self.lists k d) ≡ [] }
