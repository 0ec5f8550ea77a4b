-- Which cases of two texts differ.
use Rattle.std.specs.Prelude.{ℕ, ◌+◌, ◌==◌, Bool, true, false, cond, ◌&&◌, List, [], ◌∷◌, ◌++◌, codes, length, map, take, drop, slice_index_or, Option, None, Some}
use Rattle.std.specs.Borrow.{Bor}
use Rattle.std.specs.List.{common_prefix_len, position}
use Rattle.std.specs.Str.{bytes_eq}
use Rattle.replay.specs.declared.comparing.Outcome.{Outcome}
use Rattle.replay.specs.declared.comparing.Outcome.TheVariants.{Same, Differs, Missing, Extra}

abbrev pub Line : Type 0
Line = Bor (List ℕ)

abbrev pub Case : Type 0
Case = Bor (List Line)

abbrev pub line_begins_case : List ℕ → Bool
line_begins_case line = bytes_eq (take 5 line) (codes "case ")

-- the line that names a case, or no byte
abbrev pub name_of : List Line → List ℕ
name_of [] = []
name_of (first ∷ more) = cond (line_begins_case first.now) first.now []

abbrev pub same_line : Line → Line → Bool
same_line line other = bytes_eq line.now other.now

-- how many lines from the first on are the same
abbrev pub alike : List Line → List Line → ℕ
alike wanted got = common_prefix_len same_line wanted got

-- what came of two cases of one name
abbrev pub paired : Case → Case → Outcome
paired wanted got =
    cond ((alike wanted.now got.now == length wanted.now) && (alike wanted.now got.now == length got.now)) Same (Differs wanted got (alike wanted.now got.now))

abbrev pub same_name : Case → Case → Bool
same_name wanted got = bytes_eq (name_of got.now) (name_of wanted.now)

-- where the others have its name first
abbrev pub place_of : Case → List Case → Option ℕ
place_of case got = position (same_name case) got

-- what came of a case with the others up to there
abbrev pub told_of : Case → List Case → Option ℕ → List Outcome
told_of case got None = Missing case ∷ []
told_of case got (Some place) = map (λ other. Extra other) (take place got) ++ (paired case (slice_index_or got place case) ∷ [])

abbrev pub rest_behind : List Case → Option ℕ → List Case
rest_behind got None = got
rest_behind got (Some place) = drop (place + 1) got

-- each case that is wanted is held against the next of its name
abbrev pub outcomes : List Case → List Case → List Outcome
outcomes [] got = map (λ other. Extra other) got
outcomes (case ∷ cases) got = told_of case got (place_of case got) ++ outcomes cases (rest_behind got (place_of case got))

abbrev pub differs : Outcome → Bool
differs Same = false
differs (Differs wanted got same) = true
differs (Missing case) = true
differs (Extra case) = true
