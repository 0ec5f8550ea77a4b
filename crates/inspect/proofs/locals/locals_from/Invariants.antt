-- What is listed from the start on is what is listed from here on.
use Rattle.std.proofs.Common.{◌≡◌, ◌-◌, [], map}
use Rattle.inspect.specs.Locals.{listed}
use Rattle.inspect.proofs.locals.locals_from.Given as goal

abbrev pub invariant-loop : goal.invariant-loop
invariant-loop l = listed l.file 16 [] l.start ≡ listed l.file (16 - l.counter) (map (λ n. n.now) l.names.items) l.end
