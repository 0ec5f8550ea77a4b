-- What stands before the first filler.
use Rattle.std.proofs.Common.{rules, tests, arith, ℕ, ◌≡◌, ◌≤◌, Bool, cond, ltb, length, List, Option, Some, None}
use Rattle.std.specs.List.{position_or_len}
use Rattle.std.specs.Option.{unwrap_or}
use Rattle.std.proofs.lemmas.Iterator.{YieldsList-from_slice}
use Rattle.std.proofs.lemmas.Iterator.Search.{position_from_yields_List}
use Rattle.std.proofs.lemmas.List.Sums.{prefix_len-le-length}
use Rattle.fulatzebi.specs.Served.{is_filler}
use Rattle.fulatzebi.proofs.served.made.Goals as goal

capped : (n m : ℕ) → n ≤ m → unwrap_or (cond (ltb n m) (Some n) None) m ≡ n
capped n m h = grind arith

place : {T : Type 0} (test : T → Bool) (list : List T) (r : Option ℕ) → r ≡ cond (ltb (position_or_len test list) (length list)) (Some (position_or_len test list)) None → unwrap_or r (length list) ≡ position_or_len test list
place test list r e = rw e (capped (position_or_len test list) (length list) (prefix_len-le-length _ list))

pub returns : goal.returns
returns c =
    let found = position_from_yields_List is_filler _ _ c.position-n.result c.position-n.ensures.ran (YieldsList-from_slice c.args.list.now (cc)) (λ x b q k. search (rules, tests)) in
    let count = place is_filler c.args.list.now c.position-n.result found in
    search (rules, count)
