-- Marks, links and documents as the records that cross to C.
use Rattle.std.specs.Prelude.{ℕ, ◌+◌, ◌*◌, List, [], ◌∷◌, ℤ, pos}
use Rattle.std.specs.Option.{unwrap_or}
use Rattle.numbers.specs.Bytes.{signed_at}
use Rattle.shelf.specs.declared.marks.Mark.{Mark}
use Rattle.shelf.specs.declared.marks.Mark.TheVariants.{Glyph, Rule}
use Rattle.shelf.specs.declared.marks.Link.{Link}
use Rattle.document.specs.declared.documents.Document.{Document}
use Rattle.fulatzebi.specs.declared.records.MarkRecord.{MarkRecord}
use Rattle.fulatzebi.specs.declared.records.LinkRecord.{LinkRecord}
use Rattle.fulatzebi.specs.declared.records.DocumentRecord.{DocumentRecord}
use Rattle.fulatzebi.specs.declared.records.PageRecord.{PageRecord}

-- kind 1 is a glyph, kind 2 a rule; what a kind does not have is 0
abbrev pub mark_record : Mark → MarkRecord
mark_record (Glyph face size code h v) = record { kind = 1; face = face; size = size; code = code; height = 0; width = 0; h = h; v = v }
mark_record (Rule height width h v) = record { kind = 2; face = 0; size = 0; code = 0; height = height; width = width; h = h; v = v }

abbrev pub link_record : Link → LinkRecord
link_record l = record { font = l.font; code = l.code; place = l.place }

abbrev pub document_record : Document → DocumentRecord
document_record d = record { mag = d.mag; l = d.l; u = d.u; pages = d.pages; last = d.last; post = d.post; end = d.end }

-- count k of the page whose 139 stands at a
abbrev pub count_at : List ℕ → ℕ → ℕ → ℤ
count_at bs a k = unwrap_or (signed_at bs (a + 1 + 4 * k) 4) (pos 0)

abbrev pub page_record : List ℕ → ℕ → PageRecord
page_record bs a =
    record { place = a; counts = count_at bs a 0 ∷ count_at bs a 1 ∷ count_at bs a 2 ∷ count_at bs a 3 ∷ count_at bs a 4 ∷ count_at bs a 5 ∷ count_at bs a 6 ∷ count_at bs a 7 ∷ count_at bs a 8 ∷ count_at bs a 9 ∷ [] }
