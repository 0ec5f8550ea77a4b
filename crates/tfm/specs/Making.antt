-- A TFM shelf made from bytes and entries: the outlines of its faces, or the first refusal.
use Rattle.std.specs.Prelude.{◌≡◌, ℕ, ◌+◌, Bool, cond, not, ◌&&◌, List, [], ◌∷◌, ◌++◌, map, length, take, drop, is_some, Ok, Err, vec_items, Result, nat_le}
use Rattle.shelf.specs.Names.{good_name, found_in}
use Rattle.shelf.specs.declared.refusals.Refusal.{Refusal}
use Rattle.shelf.specs.declared.refusals.Refusal.TheVariants.{BrokenTfm, ShelfFull, TfmName}
use Rattle.tfm.specs.Files.{is_tfm}
use Rattle.tfm.specs.Outlines.{Outline, outlined, outline_of}
use Rattle.tfm.specs.Meaning.{outline_name}
use Rattle.tfm.specs.declared.entries.Entry.{Entry}
use Rattle.tfm.specs.declared.entries.NotMade.{NotMade}
use Rattle.tfm.specs.declared.entries.NotMade.TheVariants.{Refused, NoMemory}
use Rattle.tfm.specs.declared.shelves.TfmShelf.{TfmShelf}

-- the n bytes from a place on
abbrev pub slice : List ℕ → ℕ → ℕ → List ℕ
slice bytes place n = take n (drop place bytes)

abbrev pub inside : List ℕ → Entry → Bool
inside bytes e = nat_le (e.name_place + e.name_length) (length bytes) && nat_le (e.file_place + e.file_length) (length bytes)

abbrev pub name_in : List ℕ → Entry → List ℕ
name_in bytes e = slice bytes e.name_place e.name_length

abbrev pub file_in : List ℕ → Entry → List ℕ
file_in bytes e = slice bytes e.file_place e.file_length

-- a name that can be given: of 1 to 63 bytes, and not seen before
abbrev pub free : List Outline → List ℕ → Bool
free seen name = good_name name && not (is_some (found_in (map outline_name seen) name))

-- entry k after those seen: reaching outside, then the name, then the file
abbrev pub entered : List ℕ → List Outline → ℕ → Entry → Result Outline Refusal
entered bytes seen k e =
    cond (inside bytes e)
    (cond (free seen (name_in bytes e))
    (cond (is_tfm (file_in bytes e)) (Ok (outlined (name_in bytes e) e.file_place (file_in bytes e))) (Err (BrokenTfm k)))
    (Err (TfmName k)))
    (Err (BrokenTfm k))

-- the faces so far, and one more
abbrev pub joined : List Outline → Result Outline Refusal → (List Outline → Result (List Outline) Refusal) → Result (List Outline) Refusal
joined seen (Ok o) on = on (seen ++ (o ∷ []))
joined seen (Err e) on = Err e

unfoldable pub entered_from : List ℕ → List Outline → ℕ → List Entry → Result (List Outline) Refusal
entered_from bytes seen k [] = Ok seen
entered_from bytes seen k (e ∷ es) = joined seen (entered bytes seen k e) (λ more. entered_from bytes more (k + 1) es)

-- at most 32 entries and 1,048,576 bytes
abbrev pub entries : List ℕ → List Entry → Result (List Outline) Refusal
entries bytes es = cond (nat_le (length es) 32 && nat_le (length bytes) 1048576) (entered_from bytes [] 0 es) (Err ShelfFull)

-- what the maker answers: a shelf of these bytes with the faces that the entries give, or their refusal
abbrev pub Made : List ℕ → List Entry → Result TfmShelf NotMade → Type 0
Made bytes es (Ok s) = (vec_items s.bytes ≡ bytes) × (Ok (map outline_of (vec_items s.faces)) ≡ entries bytes es)
Made bytes es (Err (Refused e)) = Err e ≡ entries bytes es
Made bytes es (Err (NoMemory e)) = Unit {0}
