-- The files that a rank holds.
use Rattle.std.specs.Prelude.{List}
use Rattle.shelf.specs.declared.fonts.Shelf.{Ghosts}
use Rattle.rank.specs.declared.ranks.Rank.{Rank}
use Rattle.rank.specs.Entries.{Entry, entries_of}

-- in the order in which they were added
abbrev pub files_of : {S : Type 0} {G : Ghosts S} → Rank S G → List Entry
files_of r = entries_of r.bytes.items r.fonts.items
