-- The words by which options are named.
use Rattle.std.specs.Prelude.{ℕ, codes, List, Option}
use Rattle.std.specs.List.{find}
use Rattle.std.specs.Str.{bytes_eq}
use Rattle.terminal.specs.declared.kinds.Kind.{Kind}
use Rattle.terminal.specs.declared.kinds.Kind.TheVariants.{Tfm, Rank, Font, Size, Code, At, Text, Out, Pages}

abbrev pub word_of : Kind → List ℕ
word_of Tfm = codes "--tfm"
word_of Rank = codes "--rank"
word_of Font = codes "--font"
word_of Size = codes "--size"
word_of Code = codes "--code"
word_of At = codes "--at"
word_of Text = codes "--text"
word_of Out = codes "-o"
word_of Pages = codes "--pages"

-- the first of these options whose word this is
abbrev pub named : List Kind → List ℕ → Option Kind
named kinds word = find (λ k. bytes_eq (word_of k) word) kinds
