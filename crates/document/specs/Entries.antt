-- What the walk over the postamble's commands gives at each of its calls.
use Rattle.std.specs.Prelude.{◌≡◌, ℕ, ◌+◌, ◌<◌, ◌≤◌, Some, None, Option}
use Rattle.std.specs.Option.{option_map}
use Rattle.commands.specs.declared.parts.Definition.{Definition}
use Rattle.commands.specs.Shapes.{defines}
use Rattle.document.specs.declared.entries.Entries.{Entries}
use Rattle.document.specs.Fonts.{defined_at, entry_at}

-- the command at the walk's place, and the walk goes on behind it
pub record Turns (s : Entries) (x : ℕ × Option Definition) (t : Entries) : Type 0 where
  pub before : s.at < s.to
  pub place : x.0 ≡ s.at
  pub defined : option_map defines x.1 ≡ defined_at s.front.now s.at
  pub behind : t.at ≡ s.at + (entry_at s.front.now s.at).span
  pub front : t.front.now ≡ s.front.now
  pub to : t.to ≡ s.to

-- or nothing, where it has come to its end
abbrev pub GivesEntry : Entries → Option (ℕ × Option Definition) → Entries → Type 0
GivesEntry s None t = s.to ≤ s.at
GivesEntry s (Some x) t = Turns s x t
