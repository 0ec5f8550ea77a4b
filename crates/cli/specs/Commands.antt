-- The commands by their words.
use Rattle.std.specs.Prelude.{ℕ, Bool, false, cond, ◌||◌, codes, List, [], ◌∷◌, Option, Some, None, String}
use Rattle.std.specs.declared.alloc.Global.{Global}
use Rattle.std.specs.String.{string_bytes}
use Rattle.std.specs.Str.{bytes_eq}
use Rattle.cli.specs.declared.named.Command.{Command}
use Rattle.cli.specs.declared.named.Command.TheVariants.{Faces, Character, Pages, Fonts, Marks, Flatten, Replay, Help}

abbrev pub command_named : List ℕ → Option Command
command_named word =
    cond (bytes_eq word (codes "faces")) (Some Faces)
    (cond (bytes_eq word (codes "character")) (Some Character)
    (cond (bytes_eq word (codes "pages")) (Some Pages)
    (cond (bytes_eq word (codes "fonts")) (Some Fonts)
    (cond (bytes_eq word (codes "marks")) (Some Marks)
    (cond (bytes_eq word (codes "flatten")) (Some Flatten)
    (cond (bytes_eq word (codes "replay")) (Some Replay)
    (cond (bytes_eq word (codes "help") || bytes_eq word (codes "--help")) (Some Help)
    None)))))))

-- whether the first of the words behind a command is --help
abbrev pub help_asked : List (String Global) → Bool
help_asked [] = false
help_asked (word ∷ more) = bytes_eq (string_bytes word) (codes "--help")
