-- What a rank means, by what the shelf below it means.
use Rattle.std.specs.Prelude.{◌+◌, ◌-◌, ◌≤◌, cond, List, ◌++◌, map, length, take, ℤ, Some, None, Option, nat_lt}
use Rattle.std.specs.List.{slice_get}
use Rattle.shelf.specs.declared.asked.Asked.{Asked}
use Rattle.shelf.specs.declared.refusals.Cause.TheVariants.{NoFont}
use Rattle.shelf.specs.Meaning.{Meaning}
use Rattle.shelf.specs.Names.{Distinct}
use Rattle.shelf.specs.Outcomes.{Outcome, faulty}
use Rattle.expansion.specs.Expanding.{expanded}
use Rattle.rank.specs.Entries.{Entry, entry_name}

-- a character of one of the files
abbrev pub file_outcome : Meaning → Option Entry → Asked → Outcome ℤ
file_outcome m (Some e) c = expanded m e.font e.file c
file_outcome m None c = faulty NoFont

-- the fonts below keep their numbers, and the files' fonts follow; its faces are those below
abbrev pub rank_meaning : Meaning → List Entry → Meaning
rank_meaning m es =
    record {
      names = m.names ++ map entry_name es;
      faces = m.faces;
      outcome = λ font size code h v. cond (nat_lt font (length m.names)) (m.outcome font size code h v) (file_outcome m (slice_get es (font - length m.names)) (record { font = font; size = size; code = code; h = h; v = v }));
    }

-- the files that find room above a shelf: at most 4,096 fonts in all
abbrev pub fitting : Meaning → List Entry → List Entry
fitting m es = take (4096 - length m.names) es

abbrev pub rank_of : Meaning → List Entry → Meaning
rank_of m es = rank_meaning m (fitting m es)

-- what holds of a rank that was made by its calls: all files find room, and no name is twice
pub record RankOk (m : Meaning) (es : List Entry) : Type 0 where
  pub few : length m.names + length es ≤ 4096
  pub unlike : Distinct (m.names ++ map entry_name es)
