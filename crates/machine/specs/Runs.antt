-- A page or a packet run to its end: command after command, from a place of the bytes on.
-- The bytes end where the page or packet does.
use Rattle.std.specs.Prelude.{ℕ, zero, suc, ◌-◌, cond, List, [], length, Some, None, Option}
use Rattle.shelf.specs.declared.refusals.Cause.TheVariants.{PastEnd}
use Rattle.shelf.specs.Outcomes.{Outcome, Ending, well, fault, ends, faulty, bind, link}
use Rattle.commands.specs.Commands.{Cmd, command_at}
use Rattle.machine.specs.Steps.{World, State, Next, go, done, at_end, exec}

-- the command at a place, and how long it is
unfoldable pub turned : World → ℕ → Option (Cmd × ℕ) → State → Outcome (ℕ × Next)
turned u at None st = link (u.link_at at) (faulty PastEnd)
turned u at (Some p) st = link (u.link_at at) (bind (exec u p.0 st) (λ n. ends [] (well (p.1, n))))

-- a page has to end by its eop, a packet with no frame left
abbrev pub finished : World → State → Ending (Unit {0})
finished u st = cond u.page (fault PastEnd []) (at_end st tt)

abbrev pub continued : Next → (State → Outcome (Unit {0})) → Outcome (Unit {0})
continued (go st) on = on st
continued done on = ends [] (well tt)

-- `left` bytes are to come from the place on, of which the first `skip` belong to the last command
unfoldable pub run : World → List ℕ → (skip at left : ℕ) → State → Outcome (Unit {0})
run u s skip at zero st = link (u.link_at at) (ends [] (finished u st))
run u s (suc k) at (suc n) st = run u s k (suc at) n st
run u s zero at (suc n) st = bind (turned u at (command_at s at) st) (λ q. continued q.1 (λ st'. run u s (q.0 - 1) (suc at) n st'))

abbrev pub run_from : World → List ℕ → ℕ → State → Outcome (Unit {0})
run_from u s at st = run u s 0 at (length s - at) st
