-- The command at a place, and how many bytes it takes. Each length parameter is signed, a code only at four bytes,
-- a special's length never. A font number stands for itself as the unsigned number of its bytes:
-- at four bytes two's complement is one to one, and shorter ones are never negative.
use Rattle.std.specs.Prelude.{ℕ, ◌+◌, ◌-◌, cond, List, length, ℤ, pos, Some, None, Option, ◌==◌, nat_le, nat_lt, slice_index}
use Rattle.std.specs.Option.{option_map}
use Rattle.numbers.specs.Bytes.{number_at, signed_at}
use Rattle.commands.specs.declared.kinds.Kind.{Kind}
use Rattle.commands.specs.declared.kinds.Kind.TheVariants as K
use Rattle.commands.specs.Definitions.{Defined, definition_at}
use Rattle.commands.specs.Kinds.{kind_of}

-- a command with its parameters
pub data Cmd : Type 0 where
  set : ℤ → Cmd
  put : ℤ → Cmd
  set_rule : ℤ → ℤ → Cmd
  put_rule : ℤ → ℤ → Cmd
  nop : Cmd
  eop : Cmd
  push : Cmd
  pop : Cmd
  right : ℤ → Cmd
  w0 : Cmd
  w1 : ℤ → Cmd
  x0 : Cmd
  x1 : ℤ → Cmd
  down : ℤ → Cmd
  y0 : Cmd
  y1 : ℤ → Cmd
  z0 : Cmd
  z1 : ℤ → Cmd
  fnt : ℕ → Cmd
  xxx : Cmd
  fnt_def : Defined → Cmd
  undefined : Cmd

-- a code: signed at four bytes only
abbrev pub code_at : List ℕ → ℕ → ℕ → Option ℤ
code_at s p w = cond (w == 4) (signed_at s p 4) (option_map pos (number_at s p w))

-- a rule's height and width
abbrev pub sides : Option ℤ → Option ℤ → Option (ℤ × ℤ)
sides (Some height) (Some width) = Some (height, width)
sides (Some height) None = None
sides None o = None

abbrev pub sides_at : List ℕ → ℕ → Option (ℤ × ℤ)
sides_at s p = sides (signed_at s p 4) (signed_at s (p + 4) 4)

-- a special of n bytes from a place on
abbrev pub special : List ℕ → ℕ → ℕ → Option ℕ → Option (Cmd × ℕ)
special s at w None = None
special s at w (Some n) = cond (nat_le (at + 1 + w + n) (length s)) (Some (xxx, 1 + w + n)) None

-- the command of a kind at a place, with a parameter of w bytes
abbrev pub read_as : Kind → List ℕ → ℕ → ℕ → Option (Cmd × ℕ)
read_as K.SetChar s at w = Some (set (pos (slice_index s at)), 1)
read_as K.Set s at w = option_map (λ c. (set c, 1 + w)) (code_at s (at + 1) w)
read_as K.SetRule s at w = option_map (λ p. (set_rule p.0 p.1, 9)) (sides_at s (at + 1))
read_as K.Put s at w = option_map (λ c. (put c, 1 + w)) (code_at s (at + 1) w)
read_as K.PutRule s at w = option_map (λ p. (put_rule p.0 p.1, 9)) (sides_at s (at + 1))
read_as K.Nop s at w = Some (nop, 1)
read_as K.Eop s at w = Some (eop, 1)
read_as K.Push s at w = Some (push, 1)
read_as K.Pop s at w = Some (pop, 1)
read_as K.Right s at w = option_map (λ b. (right b, 1 + w)) (signed_at s (at + 1) w)
read_as K.W0 s at w = Some (w0, 1)
read_as K.W s at w = option_map (λ b. (w1 b, 1 + w)) (signed_at s (at + 1) w)
read_as K.X0 s at w = Some (x0, 1)
read_as K.X s at w = option_map (λ b. (x1 b, 1 + w)) (signed_at s (at + 1) w)
read_as K.Down s at w = option_map (λ b. (down b, 1 + w)) (signed_at s (at + 1) w)
read_as K.Y0 s at w = Some (y0, 1)
read_as K.Y s at w = option_map (λ b. (y1 b, 1 + w)) (signed_at s (at + 1) w)
read_as K.Z0 s at w = Some (z0, 1)
read_as K.Z s at w = option_map (λ b. (z1 b, 1 + w)) (signed_at s (at + 1) w)
read_as K.FntNum s at w = Some (fnt (slice_index s at - 171), 1)
read_as K.Fnt s at w = option_map (λ n. (fnt n, 1 + w)) (number_at s (at + 1) w)
read_as K.Xxx s at w = special s at w (number_at s (at + 1) w)
read_as K.FntDef s at w = option_map (λ d. (fnt_def d, w + 15 + length d.name)) (definition_at s at w)
read_as K.Undefined s at w = Some (undefined, 1)

abbrev pub read_by : Kind × ℕ → List ℕ → ℕ → Option (Cmd × ℕ)
read_by k s at = read_as k.0 s at k.1

-- none where the command does not end before the bytes do
unfoldable pub command_at : List ℕ → ℕ → Option (Cmd × ℕ)
command_at s at = cond (nat_lt at (length s)) (read_by (kind_of (slice_index s at)) s at) None
