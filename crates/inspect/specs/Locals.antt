-- The local fonts of a VF file by their definitions alone.
use Rattle.std.specs.Prelude.{ℕ, zero, suc, ◌+◌, ◌-◌, ◌==◌, ◌||◌, cond, nat_le, nat_lt, List, [], ◌∷◌, ◌++◌, length, map, Option, Some, None, Result, Ok, Err, slice_index}
use Rattle.commands.specs.Definitions.{Defined, definition_at}
use Rattle.shelf.specs.declared.refusals.Refusal.{Refusal}
use Rattle.shelf.specs.declared.refusals.Refusal.TheVariants.{BrokenVf}
use Rattle.inspect.specs.declared.locals.Locals.{Locals}

-- names, and the place behind the last of their definitions
pub record Listed : Type 0 where
  pub names : List (List ℕ)
  pub end : ℕ

abbrev pub listed_of : Locals → Listed
listed_of l = record { names = map (λ n. n.now) l.names.items; end = l.end }

-- in how many bytes the number stands, where the byte begins a definition
abbrev width : List ℕ → ℕ → ℕ
width s at = slice_index s at - 242

abbrev behind : ℕ → Option Defined → Option (List ℕ × ℕ)
behind place None = None
behind place (Some d) = Some (d.name, place + length d.name)

-- the name that a definition at a place gives, and the place behind it
abbrev pub local_at : List ℕ → ℕ → Option (List ℕ × ℕ)
local_at s at = behind (at + width s at + 15) (definition_at s at (width s at))

-- on behind a definition
abbrev pub onward : List (List ℕ) → ℕ → Option (List ℕ × ℕ) → (List (List ℕ) → ℕ → Listed) → Listed
onward names at None on = record { names = names; end = at }
onward names at (Some p) on = on (names ++ (p.0 ∷ [])) p.1

-- with so many definitions more, behind those of these names
unfoldable pub listed : List ℕ → ℕ → List (List ℕ) → ℕ → Listed
listed s zero names at = record { names = names; end = at }
listed s (suc n) names at = onward names at (local_at s at) (λ more next. listed s n more next)

-- behind the definitions stands a packet, or a byte 248; a file that ends before its preamble does is broken at 0
abbrev pub stop_at : List ℕ → ℕ → Result (Unit {0}) Refusal
stop_at s end =
    cond (nat_lt end (length s))
    (cond (nat_le (slice_index s end) 242 || slice_index s end == 248) (Ok tt) (Err (BrokenVf end)))
    (cond (nat_lt (length s) end) (Err (BrokenVf 0)) (Err (BrokenVf end)))
