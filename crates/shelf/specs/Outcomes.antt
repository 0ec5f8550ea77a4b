-- What a character, a packet or a page comes to: marks in order, and then a value or a fault with its chain.
use Rattle.std.specs.Prelude.{cond, List, [], ◌∷◌, ◌++◌, length, nat_lt}
use Rattle.shelf.specs.declared.marks.Mark.{Mark}
use Rattle.shelf.specs.declared.marks.Link.{Link}
use Rattle.shelf.specs.declared.refusals.Cause.{Cause}

-- how it ends: well, by a value (of a character its width), or by a fault with its chain, innermost first
pub data Ending (W : Type 0) : Type 0 where
  well : W → Ending W
  fault : Cause → List Link → Ending W

pub record Outcome (W : Type 0) : Type 0 where
  pub marks : List Mark
  pub ending : Ending W

abbrev pub ends : {W : Type 0} → List Mark → Ending W → Outcome W
ends ms e = record { marks = ms; ending = e }

-- a fault at once, its chain empty
abbrev pub faulty : {W : Type 0} → Cause → Outcome W
faulty k = ends [] (fault k [])

-- one outcome after another: marks in order, and the first fault ends it
abbrev pub prepend : {W : Type 0} → List Mark → Outcome W → Outcome W
prepend ms o = ends (ms ++ o.marks) o.ending

abbrev pub onward : {A B : Type 0} → List Mark → Ending A → (A → Outcome B) → Outcome B
onward ms (well a) f = prepend ms (f a)
onward ms (fault k ch) f = ends ms (fault k ch)

abbrev pub bind : {A B : Type 0} → Outcome A → (A → Outcome B) → Outcome B
bind o f = onward o.marks o.ending f

-- a chain with one link more at its outer end, at most 65,535 in all
abbrev pub longer : List Link → Link → List Link
longer ch l = cond (nat_lt (length ch) 65535) (ch ++ (l ∷ [])) ch

abbrev pub link_ending : {W : Type 0} → Link → Ending W → Ending W
link_ending l (well w) = well w
link_ending l (fault k ch) = fault k (longer ch l)

abbrev pub link : {W : Type 0} → Link → Outcome W → Outcome W
link l o = ends o.marks (link_ending l o.ending)
