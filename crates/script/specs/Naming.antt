-- The bytes that a store has by name, and what a line does to them.
use Rattle.std.specs.Prelude.{ℕ, ◌≡◌, ◌⊎◌, ◌+◌, ◌-◌, ◌*◌, ◌%◌, cond, nat_lt, List, [], ◌∷◌, length, slice_index, slice_get, codes, Option, None, Some, Result, Ok, Err, alloc_error}
use Rattle.std.specs.Option.{ok_or, option_and_then, option_or}
use Rattle.std.specs.Str.{bytes_eq, IsUtf8}
use Rattle.std.specs.Vec.{vec_items}
use Rattle.script.specs.Bytes.{filled_bytes, spelled_bytes}
use Rattle.script.specs.declared.problems.Problem.{Problem}
use Rattle.script.specs.declared.problems.Problem.TheVariants.{NoMemory, NoSuchFile, NotBytes, NotText, WrongCount}
use Rattle.script.specs.declared.store.Named.{Named}
use Rattle.script.specs.declared.store.Store.{Store}

-- which list a name is in, by its last byte
abbrev pub list_of : List ℕ → ℕ
list_of name = slice_index name (length name - 1) % 8

-- the bytes that a list last gives a name
abbrev pub last_given : List ℕ → List Named → Option (List ℕ)
last_given name [] = None
last_given name (one ∷ more) = option_or (last_given name more) (cond (bytes_eq (vec_items one.name) name) (Some (vec_items one.bytes)) None)

-- the bytes that were last given a name
abbrev pub bytes_of : Store → List ℕ → Option (List ℕ)
bytes_of store name = option_and_then (λ list. last_given name (vec_items list)) (slice_get store.lists (list_of name))

-- every name has the bytes that it had
abbrev pub Unchanged : Store → Store → Type 0
Unchanged old new = (name : List ℕ) → bytes_of new name ≡ bytes_of old name

-- a name has these bytes, and every other name has those that it had
abbrev pub Names : Store → Store → List ℕ → List ℕ → Type 0
Names old new name bytes = (other : List ℕ) → bytes_of new other ≡ cond (bytes_eq name other) (Some bytes) (bytes_of old other)

-- a call gives a name the bytes, or hands the problem on; but memory may be wanting
abbrev pub Gives : {A : Type 0} → Store → Store → List ℕ → Result (List ℕ) Problem → Result A Problem → Type 0
Gives old new name given (Ok _) = (bytes : List ℕ) × (given ≡ Ok bytes) × Names old new name bytes
Gives old new name given (Err problem) = Unchanged old new × ((problem ≡ NoMemory alloc_error) ⊎ (given ≡ Err problem))

-- why there are no bytes of a file: its path is no text, or it cannot be read
abbrev pub NoFile : List ℕ → Problem → Type 0
NoFile path problem = ((problem ≡ NoSuchFile) × IsUtf8 path) ⊎ ((problem ≡ NotText) × ¬ (IsUtf8 path))

-- a call gives a name the bytes of a file, whatever they are
abbrev pub Loads : {A : Type 0} → Store → Store → List ℕ → List ℕ → Result A Problem → Type 0
Loads old new name path (Ok _) = IsUtf8 path × ((bytes : List ℕ) × Names old new name bytes)
Loads old new name path (Err problem) = Unchanged old new × ((problem ≡ NoMemory alloc_error) ⊎ NoFile path problem)

-- no line names bytes by so many words, or by this first one
abbrev pub Refuses : {A : Type 0} → Store → Store → Result A Problem → Type 0
Refuses old new result = Unchanged old new × (result ≡ Err WrongCount)

-- what the words of a line do
abbrev pub Defines : {A : Type 0} → Store → Store → List (List ℕ) → Result A Problem → Type 0
Defines old new (kind ∷ name ∷ word ∷ []) result =
    cond (bytes_eq kind (codes "bytes")) (Gives old new name (ok_or (spelled_bytes word) NotBytes) result)
    (cond (bytes_eq kind (codes "file")) (Loads old new name word result) (Refuses old new result))
Defines old new (kind ∷ name ∷ byte ∷ count ∷ []) result =
    cond (bytes_eq kind (codes "fill")) (Gives old new name (filled_bytes byte count) result) (Refuses old new result)
Defines old new _ result = Refuses old new result
