-- What the words of `flatten` ask for.
use Rattle.std.specs.Prelude.{ℕ, ◌+◌, ◌-◌, ◌^◌, min, nat_le, Bool, true, false, cond, List, [], ◌∷◌, codes, length, slice_index_or, take, Option, None, Some, String}
use Rattle.std.specs.declared.alloc.Global.{Global}
use Rattle.std.specs.Str.{bytes_eq}
use Rattle.std.specs.String.{string_bytes}
use Rattle.terminal.specs.declared.kinds.Kind.{Kind}
use Rattle.terminal.specs.declared.kinds.Kind.TheVariants.{Tfm, Rank, Out, Pages}
use Rattle.terminal.specs.Options.{Given, fresh, given_of, parsed}
use Rattle.copying.specs.declared.jobs.Job.{Job}

-- the document, the file to write, the options, and whether it is checked
pub record Asked : Type 0 where
  pub file : List ℕ
  pub target : List ℕ
  pub given : Given
  pub check : Bool

abbrev pub is_check : String Global → Bool
is_check word = bytes_eq (string_bytes word) (codes "--check")

-- whether a `--check` stands behind, and the other words
abbrev pub without_last : String Global → List (String Global) → Bool × List (String Global)
without_last first words = cond (is_check (slice_index_or words (length words - 1) first)) (true, take (length words - 1) words) (false, words)

-- whether one stands in front or else behind, and the other words
abbrev pub without_check : List (String Global) → Bool × List (String Global)
without_check [] = (false, [])
without_check (first ∷ more) = cond (is_check first) (true, more) (without_last first (first ∷ more))

abbrev pub known : List Kind
known = Tfm ∷ Rank ∷ Out ∷ Pages ∷ []

abbrev pub with_target : List ℕ → Bool → Given → Option (List ℕ) → Option Asked
with_target file check given None = None
with_target file check given (Some target) = Some (record { file = file; target = target; given = given; check = check })

abbrev pub with_given : List ℕ → Bool → Option Given → Option Asked
with_given file check None = None
with_given file check (Some given) = with_target file check given given.out

abbrev pub asked : List (String Global) → Option Asked
asked [] = None
asked (file ∷ words) = with_given (string_bytes file) (without_check words).0 (parsed known fresh (without_check words).1)

abbrev pub asked_by : Job → Asked
asked_by job = record { file = job.file.now; target = job.target.now; given = given_of job.options; check = job.check }

-- the first page, and how many there are, at most the greatest number that there is
abbrev pub pages_given : Option (ℕ × ℕ) → ℕ → ℕ × ℕ
pages_given None all = (1, all)
pages_given (Some p) all = (p.0, cond (nat_le p.0 p.1) (min (p.1 - p.0 + 1) (2 ^ 64 - 1)) 0)
