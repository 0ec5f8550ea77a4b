-- What a copy leaves in the caller's lists: only the reading of its source writes them.
use Rattle.std.specs.Prelude.{ℕ, cond, List, Some, None, Option, nat_lt}
use Rattle.std.specs.Result.{result_ok}
use Rattle.shelf.specs.declared.marks.Link.{Link}
use Rattle.shelf.specs.declared.marks.Mark.{Mark}
use Rattle.shelf.specs.Answers.{overlay, linked}
use Rattle.shelf.specs.Outcomes.{Outcome}
use Rattle.copies.specs.Pages.{Progress}
use Rattle.ledgers.specs.Sources.{Source, sourced}
use Rattle.ledgers.specs.Steps.{View}

-- the outcome that is read, if the call comes to its reading and the source has a page to read
abbrev pub read_by : View → Option Progress → Source → ℕ → Option (Outcome (Unit {0}))
read_by v None s room = None
read_by v (Some g) s room = cond (nat_lt room g.used) None (result_ok (sourced v.opening.mag v.means s))

abbrev pub read_at : View → Source → ℕ → Option (Outcome (Unit {0}))
read_at v s room = read_by v v.come s room

-- its marks at the front of the mark list, a fault's chain at the front of the chain list
abbrev pub marked : Option (Outcome (Unit {0})) → List Mark → List Mark
marked None marks = marks
marked (Some o) marks = overlay o.marks marks

abbrev pub chained : Option (Outcome (Unit {0})) → ℕ → List Link → List Link
chained None room chain = chain
chained (Some o) room chain = linked o room chain
