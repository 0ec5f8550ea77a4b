-- The lines by which the library's values are told.
use Rattle.std.specs.Prelude.{ℕ, ◌/◌, ◌%◌, List, [], ◌∷◌, ◌++◌, codes, false, Option, None, Some}
use Rattle.std.specs.Fmt.{decimal, digit_glyph, signed_decimal}
use Rattle.std.specs.List.{flat_map}
use Rattle.shelf.specs.Refusals.{Returned}
use Rattle.shelf.specs.declared.fonts.Count.{Count}
use Rattle.shelf.specs.declared.fonts.Face.{Face}
use Rattle.shelf.specs.declared.marks.Link.{Link}
use Rattle.shelf.specs.declared.marks.Mark.{Mark}
use Rattle.shelf.specs.declared.marks.Mark.TheVariants.{Glyph, Rule}

abbrev pub count_line : Count → List ℕ
count_line count = decimal count.fonts ++ codes " " ++ decimal count.faces

-- two hexadecimal digits, the letters lowercase
abbrev pub byte_digits : ℕ → List ℕ
byte_digits byte = digit_glyph false (byte / 16) ∷ digit_glyph false (byte % 16) ∷ []

-- two digits for each byte, or a minus sign for none
abbrev pub name_word : List ℕ → List ℕ
name_word [] = codes "-"
name_word (byte ∷ bytes) = flat_map byte_digits (byte ∷ bytes)

abbrev pub face_line : Face → List ℕ
face_line face = decimal face.checksum ++ codes " " ++ decimal face.design ++ codes " " ++ name_word face.name.now

-- a word and a number behind it, where there is a number
abbrev pub with_number : List ℕ → Option ℕ → List ℕ
with_number word None = []
with_number word (Some number) = word ++ decimal number

abbrev pub returned_line : Returned → List ℕ
returned_line r = codes "refused " ++ decimal r.number ++ with_number (codes " ") r.value ++ with_number (codes " chain ") r.links

abbrev pub mark_line : Mark → List ℕ
mark_line (Glyph face size code h v) =
    codes "glyph " ++ decimal face ++ codes " " ++ decimal size ++ codes " " ++ decimal code ++ codes " " ++ signed_decimal h ++ codes " " ++ signed_decimal v
mark_line (Rule height width h v) =
    codes "rule " ++ decimal height ++ codes " " ++ decimal width ++ codes " " ++ signed_decimal h ++ codes " " ++ signed_decimal v

abbrev pub link_line : Link → List ℕ
link_line link = codes "link " ++ decimal link.font ++ codes " " ++ decimal link.code ++ codes " " ++ decimal link.place
