-- What adding a file to a rank answers and leaves.
use Rattle.std.specs.Prelude.{ℕ, ◌+◌, Bool, true, false, cond, ◌&&◌, ◌||◌, List, [], ◌∷◌, ◌++◌, length, Some, None, Ok, Err, Option, Result, nat_le, nat_lt}
use Rattle.shelf.specs.declared.refusals.Refusal.{Refusal}
use Rattle.shelf.specs.declared.refusals.Refusal.TheVariants.{ShelfFull, VfName}
use Rattle.shelf.specs.Meaning.{Meaning}
use Rattle.shelf.specs.Names.{good_name, found_in}
use Rattle.vf.specs.Files.{vf_of}
use Rattle.vf.specs.Fonts.{VfFont}
use Rattle.rank.specs.declared.filing.Offer.{Offer}
use Rattle.rank.specs.Entries.{Entry, in_all}
use Rattle.rank.specs.Ranks.{rank_of}

-- the files afterwards, and the answer
abbrev pub Added : Type 0
Added = List Entry × Result (Unit {0}) Refusal

-- a ninth file, more than 32,768 bytes in all, or a 4,097th font
abbrev pub lacking : (files bytes fonts more : ℕ) → Bool
lacking files bytes fonts more = nat_le 8 files || nat_lt 32768 (bytes + more) || nat_le 4096 fonts

abbrev pub nobody : Option ℕ → Bool
nobody None = true
nobody (Some k) = false

-- a name of 1 to 63 bytes that no font of the rank bears
abbrev pub free : List (List ℕ) → List ℕ → Bool
free names name = good_name name && nobody (found_in names name)

abbrev pub read_into : List Entry → List ℕ → List ℕ → Result VfFont Refusal → Added
read_into es name file (Ok f) = (es ++ record { name = name; file = file; font = f } ∷ [], Ok tt)
read_into es name file (Err e) = (es, Err e)

-- a file added under a name, over a shelf: room, the name, and then the file
abbrev pub added : Meaning → List Entry → List ℕ → List ℕ → Added
added m es name file =
    cond (lacking (length es) (in_all es) (length (rank_of m es).names) (length file)) (es, Err ShelfFull)
    (cond (free (rank_of m es).names name) (read_into es name file (vf_of m.names file)) (es, Err VfName))

-- a name and a file, as they are given
pub record Given : Type 0 where
  pub name : List ℕ
  pub file : List ℕ

abbrev pub given_by : Offer → Given
given_by o = record { name = o.name.now; file = o.file.now }

-- the files afterwards, and an answer to each
abbrev pub AllAdded : Type 0
AllAdded = List Entry × List (Result (Unit {0}) Refusal)

abbrev pub answered : AllAdded → Added → AllAdded
answered before after = (after.0, before.1 ++ after.1 ∷ [])

-- one file more
abbrev pub next_added : Meaning → AllAdded → Given → AllAdded
next_added m before g = answered before (added m before.0 g.name g.file)

-- files added one after the other: which are taken, and how each is answered, is a function of the shelf below and the list
unfoldable pub added_all : Meaning → AllAdded → List Given → AllAdded
added_all m before [] = before
added_all m before (g ∷ gs) = added_all m (next_added m before g) gs
