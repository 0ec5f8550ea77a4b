-- What the lists of a call hold, and the text by which they are told.
use Rattle.std.specs.Prelude.{ℕ, Bool, not, ◌||◌, cond, List, [], ◌∷◌, ◌++◌, codes, take, drop}
use Rattle.std.specs.List.{flat_map, list_any, position_or_len}
use Rattle.shelf.specs.contracts.marks.LinkPartialEq.TheImpl as links
use Rattle.shelf.specs.contracts.marks.MarkPartialEq.TheImpl as marks
use Rattle.shelf.specs.declared.marks.Link.{Link}
use Rattle.shelf.specs.declared.marks.Mark.{Mark}
use Rattle.answers.specs.Lines.{link_line, mark_line}
use Rattle.answers.specs.declared.lists.Lists.{Lists}
use Rattle.answers.specs.declared.lists.TheConstants.{LINK_FILLER, MARK_FILLER}

module _ {T : Type 0} (eq : T → T → Bool) (filler : T) where
  -- how many entries stand before the first filler
  abbrev pub written_count : List T → ℕ
  written_count list = position_or_len (λ entry. eq entry filler) list

  -- the entries before the first filler, and those from there on
  abbrev pub written : List T → List T
  written list = take (written_count list) list

  abbrev pub unwritten : List T → List T
  unwritten list = drop (written_count list) list

  -- whether an entry is not the filler
  abbrev pub has_other : List T → Bool
  has_other list = list_any (λ entry. not (eq entry filler)) list

-- what `==` answers
abbrev pub same_mark : Mark → Mark → Bool
same_mark = marks.ghosts.eq

abbrev pub same_link : Link → Link → Bool
same_link = links.ghosts.eq

abbrev pub mark_lines : List Mark → List ℕ
mark_lines list = flat_map (λ mark. mark_line mark ++ 10 ∷ []) list

abbrev pub link_lines : List Link → List ℕ
link_lines list = flat_map (λ link. link_line link ++ 10 ∷ []) list

abbrev pub stray_line : Bool → List ℕ
stray_line stray = cond stray (codes "stray" ++ 10 ∷ []) []

-- a line for each entry before the first filler, and one more where an entry behind it is not the filler
abbrev pub lists_text : Lists → List ℕ
lists_text lists =
    mark_lines (written same_mark MARK_FILLER lists.marks.items) ++ link_lines (written same_link LINK_FILLER lists.chain.items)
    ++ stray_line (has_other same_mark MARK_FILLER (unwritten same_mark MARK_FILLER lists.marks.items) || has_other same_link LINK_FILLER (unwritten same_link LINK_FILLER lists.chain.items))
