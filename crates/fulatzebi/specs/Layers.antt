-- What the shelf of a bundle means, or what of the bundle is refused.
use Rattle.std.specs.Prelude.{◌≡◌, ◌⊎◌, ℕ, ◌+◌, Bool, cond, List, [], ◌∷◌, map, length, Some, None, Ok, Err, Option, Result, nat_le, ◌==◌, vec_items}
use Rattle.std.specs.Option.{unwrap_or}
use Rattle.std.specs.List.{filter, list_all}
use Rattle.shelf.specs.declared.refusals.Refusal.{Refusal}
use Rattle.shelf.specs.Meaning.{Meaning}
use Rattle.shelf.specs.Refusals.{returned}
use Rattle.tfm.specs.declared.entries.Entry.{Entry}
use Rattle.tfm.specs.declared.entries.NotMade.{NotMade}
use Rattle.tfm.specs.declared.entries.NotMade.TheVariants.{Refused as NotTaken, NoMemory as NoRoom}
use Rattle.tfm.specs.declared.shelves.TfmShelf.{TfmShelf}
use Rattle.tfm.specs.Making.{slice, entries}
use Rattle.tfm.specs.Meaning.{tfm_meaning}
use Rattle.tfm.specs.Outlines.{Outline, outline_of}
use Rattle.rank.specs.Adding.{added}
use Rattle.rank.specs.Entries.{Entry as File}
use Rattle.rank.specs.Ranks.{rank_of}
use Rattle.fulatzebi.specs.declared.records.FontRecord.{FontRecord}
use Rattle.fulatzebi.specs.declared.stops.Step.TheVariants.{Call, Font}
use Rattle.fulatzebi.specs.declared.stops.Stop.{Stop}
use Rattle.fulatzebi.specs.declared.stops.Why.{Why}
use Rattle.fulatzebi.specs.declared.stops.Why.TheVariants.{Refused, BadRecord}
use Rattle.fulatzebi.specs.Answers.{no_memory}

-- every rank is 0 to 4
abbrev pub known : List FontRecord → Bool
known fs = list_all (λ f. nat_le f.rank 4) fs

-- the fonts of one rank, in their order
abbrev pub of_rank : ℕ → List FontRecord → List FontRecord
of_rank k fs = filter (λ f. f.rank == k) fs

abbrev pub entry_in : FontRecord → Entry
entry_in f = record { name_place = f.name_place; name_length = f.name_length; file_place = f.file_place; file_length = f.file_length }

-- a refusal of the TFM files, with the file that it names
abbrev pub tfm_stop : Refusal → Stop
tfm_stop e = record { step = Font 0 (unwrap_or (returned e).value 0); why = Refused e }

abbrev pub stop_of : NotMade → Stop
stop_of (NotTaken e) = tfm_stop e
stop_of (NoRoom e) = no_memory

-- what the faces mean
abbrev pub faces_by : List ℕ → Result (List Outline) Refusal → Result Meaning Stop
faces_by bytes (Ok os) = Ok (tfm_meaning bytes os)
faces_by bytes (Err e) = Err (tfm_stop e)

abbrev pub faces_meaning : List ℕ → List FontRecord → Result Meaning Stop
faces_meaning bytes fs = faces_by bytes (entries bytes (map entry_in (of_rank 0 fs)))

abbrev pub tfm_means : TfmShelf → Meaning
tfm_means s = tfm_meaning (vec_items s.bytes) (map outline_of (vec_items s.faces))

abbrev pub Faced : List ℕ → List FontRecord → Result TfmShelf Stop → Type 0
Faced bytes fs (Ok s) = Ok (tfm_means s) ≡ faces_meaning bytes fs
Faced bytes fs (Err s) = (s ≡ no_memory) ⊎ (Err s ≡ faces_meaning bytes fs)

-- the n bytes from a place on; none where they reach outside
abbrev pub bytes_in : List ℕ → ℕ → ℕ → Option (List ℕ)
bytes_in bytes place n = cond (nat_le (place + n) (length bytes)) (Some (slice bytes place n)) None

abbrev pub Offered : Type 0
Offered = List File × Result (Unit {0}) Why

abbrev pub answered : List File × Result (Unit {0}) Refusal → Offered
answered (es, Ok u) = (es, Ok tt)
answered (es, Err e) = (es, Err (Refused e))

-- a file of the bundle, added to the files of a rank
abbrev pub offered_by : Meaning → List File → Option (List ℕ) → Option (List ℕ) → Offered
offered_by m es None file = (es, Err BadRecord)
offered_by m es (Some name) None = (es, Err BadRecord)
offered_by m es (Some name) (Some file) = answered (added m es name file)

abbrev pub offered : Meaning → List File → List ℕ → FontRecord → Offered
offered m es bytes f = offered_by m es (bytes_in bytes f.name_place f.name_length) (bytes_in bytes f.file_place f.file_length)

abbrev pub onward : ℕ → ℕ → Offered → (List File → Result (List File) Stop) → Result (List File) Stop
onward rank k (es, Ok u) next = next es
onward rank k (es, Err why) next = Err (record { step = Font rank k; why = why })

-- the files of a rank, from the k-th on, added over a shelf to those before
unfoldable pub filled : Meaning → ℕ → List ℕ → ℕ → List File → List FontRecord → Result (List File) Stop
filled m rank bytes k es [] = Ok es
filled m rank bytes k es (f ∷ fs) = onward rank k (offered m es bytes f) (λ more. filled m rank bytes (k + 1) more fs)

abbrev pub ranked_by : Meaning → Result (List File) Stop → Result Meaning Stop
ranked_by m (Ok es) = Ok (rank_of m es)
ranked_by m (Err s) = Err s

-- a rank of the bundle over a shelf
abbrev pub laid : List ℕ → List FontRecord → ℕ → Meaning → Result Meaning Stop
laid bytes fs rank m = ranked_by m (filled m rank bytes 0 [] (of_rank rank fs))

abbrev pub above : List ℕ → List FontRecord → ℕ → Result Meaning Stop → Result Meaning Stop
above bytes fs rank (Ok m) = laid bytes fs rank m
above bytes fs rank (Err s) = Err s

-- the shelf of a bundle: four ranks over the faces
abbrev pub shelf_of : List ℕ → List FontRecord → Result Meaning Stop
shelf_of bytes fs =
    cond (known fs)
    (above bytes fs 4 (above bytes fs 3 (above bytes fs 2 (above bytes fs 1 (faces_meaning bytes fs)))))
    (Err (record { step = Call; why = BadRecord }))
