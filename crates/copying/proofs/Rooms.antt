-- How long fresh and cleared lists are. Assumes nothing.
use Rattle.std.proofs.Common.{◌≡◌, ℕ, ◌≤◌, List, ◌++◌, length, take, drop, sym, arith, length-append, length-drop}
use Rattle.std.proofs.lemmas.List.{length-replicate, take_at}
use Rattle.shelf.specs.declared.marks.Mark.{Mark}
use Rattle.answers.specs.Fresh.{no_marks}

pub length-no_marks : (n : ℕ) → length (no_marks n) ≡ n
unfolding no_marks
length-no_marks n = length-replicate n _

pub length-cleared : (count : ℕ) (marks : List Mark) → count ≤ length marks → length (no_marks count ++ drop count marks) ≡ length marks
length-cleared count marks most = omega (arith, length-append (no_marks count) (drop count marks), length-no_marks count, length-drop count marks)

-- what a call wrote to all of a list's entries
pub whole : (n : ℕ) (new old : List ℕ) → n ≡ length old → length new ≡ length old → new ≡ take n (new ++ drop (length new) old)
whole n new old is long = sym (take_at new (drop (length new) old) n (omega arith))
