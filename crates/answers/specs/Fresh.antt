-- Lists that no call has written to.
use Rattle.std.specs.Prelude.{ℕ, List, replicate}
use Rattle.shelf.specs.declared.marks.Mark.{Mark}
use Rattle.shelf.specs.declared.marks.Link.{Link}
use Rattle.answers.specs.declared.lists.TheConstants.{LINK_FILLER, MARK_FILLER}

unfoldable pub no_marks : ℕ → List Mark
no_marks n = replicate n MARK_FILLER

unfoldable pub no_links : ℕ → List Link
no_links n = replicate n LINK_FILLER
