-- Commands as code holds them, a definition's name by its bytes.
use Rattle.std.specs.Prelude.{ℕ, Option}
use Rattle.std.specs.Option.{option_map}
use Rattle.commands.specs.declared.parts.Command.{Command}
use Rattle.commands.specs.declared.parts.Command.TheVariants as C
use Rattle.commands.specs.declared.parts.Definition.{Definition}
use Rattle.commands.specs.Commands.{Cmd, set, put, set_rule, put_rule, nop, eop, push, pop, right, w0, w1, x0, x1, down, y0, y1, z0, z1, fnt, xxx, fnt_def, undefined}
use Rattle.commands.specs.Definitions.{Defined}

abbrev pub defines : Definition → Defined
defines d = record { number = d.number; checksum = d.checksum; size = d.size; design = d.design; name = d.name.now }

abbrev pub plain : Command → Cmd
plain (C.Set c) = set c
plain (C.Put c) = put c
plain (C.SetRule a b) = set_rule a b
plain (C.PutRule a b) = put_rule a b
plain C.Nop = nop
plain C.Eop = eop
plain C.Push = push
plain C.Pop = pop
plain (C.Right b) = right b
plain C.W0 = w0
plain (C.W b) = w1 b
plain C.X0 = x0
plain (C.X b) = x1 b
plain (C.Down b) = down b
plain C.Y0 = y0
plain (C.Y b) = y1 b
plain C.Z0 = z0
plain (C.Z b) = z1 b
plain (C.Fnt n) = fnt n
plain C.Xxx = xxx
plain (C.FntDef d) = fnt_def (defines d)
plain C.Undefined = undefined

-- a command and how many bytes it takes
abbrev pub shape : Command × ℕ → Cmd × ℕ
shape p = (plain p.0, p.1)

abbrev pub shape_of : Option (Command × ℕ) → Option (Cmd × ℕ)
shape_of r = option_map shape r
