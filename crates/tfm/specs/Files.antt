-- A TFM file as a function of its bytes: twelve counts of two bytes, and then words of four.
use Rattle.std.specs.Prelude.{ℕ, zero, suc, ◌+◌, ◌-◌, ◌*◌, ◌^◌, ◌<◌, ◌≤◌, Bool, true, ◌&&◌, List, length, ◌==◌, nat_le, nat_lt, slice_index}
use Rattle.numbers.specs.Bytes.{number}
use Rattle.numbers.specs.FixWords.{begins_fix_word}

-- the counts that the rest depends on: words in the file, header words, first and last code, widths
abbrev pub lf : List ℕ → ℕ
lf f = number f 0 2

abbrev pub lh : List ℕ → ℕ
lh f = number f 2 2

abbrev pub bc : List ℕ → ℕ
bc f = number f 4 2

abbrev pub ec : List ℕ → ℕ
ec f = number f 6 2

abbrev pub nw : List ℕ → ℕ
nw f = number f 8 2

-- the words after the widths: nh nd ni nl nk ne np
abbrev pub behind : List ℕ → ℕ
behind f = number f 10 2 + number f 12 2 + number f 14 2 + number f 16 2 + number f 18 2 + number f 20 2 + number f 22 2

-- how many codes have a word
abbrev pub codes : List ℕ → ℕ
codes f = ec f + 1 - bc f

abbrev pub counts_agree : List ℕ → Bool
counts_agree f =
    nat_le 2 (lh f)
    && (nat_le (bc f) (ec f + 1)
    && (nat_le (ec f) 255
    && (nat_le 1 (nw f)
    && (nat_le (nw f) 256
    && (lf f == 6 + lh f + codes f + nw f + behind f
    && length f == 4 * lf f)))))

-- the places of the words for codes, and of the widths
abbrev pub characters : List ℕ → ℕ
characters f = 24 + 4 * lh f

abbrev pub widths : List ℕ → ℕ
widths f = characters f + 4 * codes f

abbrev pub checksum : List ℕ → ℕ
checksum f = number f 24 4

abbrev pub design : List ℕ → ℕ
design f = number f 28 4

-- of n places each passes
abbrev pub every : (ℕ → Bool) → ℕ → Bool
every p zero = true
every p (suc n) = every p n && p n

-- each code's word begins with a width index below nw
abbrev pub indexed : List ℕ → ℕ → ℕ → ℕ → Bool
indexed f from n limit = every (λ i. nat_lt (slice_index f (from + 4 * i)) limit) n

-- each of n words is a fix_word
abbrev pub fix_words : List ℕ → ℕ → ℕ → Bool
fix_words f from n = every (λ i. begins_fix_word (slice_index f (from + 4 * i))) n

-- a design size of 1 to 2,048 points, width indexes in the table, widths that are fix_words, the first of them 0
abbrev pub contents_agree : List ℕ → Bool
contents_agree f =
    nat_le (2 ^ 20) (design f)
    && (nat_lt (design f) (2 ^ 31)
    && (indexed f (characters f) (codes f) (nw f)
    && (fix_words f (widths f) (nw f)
    && number f (widths f) 4 == 0)))

abbrev pub is_tfm : List ℕ → Bool
is_tfm f = counts_agree f && contents_agree f

-- what of a TFM file its reader counts on
pub record Fit (f : List ℕ) : Type 0 where
  pub header : 32 ≤ length f
  pub room : widths f + 4 * nw f ≤ length f
  pub least : 2 ^ 20 ≤ design f
  pub most : design f < 2 ^ 31
  pub few : bc f + codes f ≤ 256
