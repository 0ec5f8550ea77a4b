use Rattle.std.proofs.Common.{rules, arith, lit<, ℕ, ◌≡◌, ◌+◌, ◌*◌, ◌≤◌, ◌<◌, ◌^◌, Some}
use Rattle.std.proofs.Math.Nat.{pow-le-pow_right}
use Rattle.std.proofs.lemmas.Option.{MatchOption-at_some}
use Rattle.script.proofs.words.fix_word.Goals as goal

-- one more digit, where there are fewer than eight
next_fits : (n i d : ℕ) → n < 16 ^ i → i < 8 → d < 16 → n * 16 + d < 2 ^ 32
next_fits n i d a b e = let most : 16 ^ i ≤ 16 ^ 7 = pow-le-pow_right {n = 16} (lit< tt) {i = i} {j = 7} (omega arith) in omega arith

pub overflow_add-number : goal.overflow_add-number
overflow_add-number c =
    let is : c.digit_of.result ≡ Some c.in_ok-digit.digit = grind arith in
    let few : c.in_ok-digit.digit < 16 = MatchOption-at_some _ (λ d. d < 16) _ is c.digit_of.ensures.bound in
    let more : c.loop-letter.number * 16 + c.in_ok-digit.digit < 2 ^ 32 = next_fits c.loop-letter.number c.loop-letter.letter-index c.in_ok-digit.digit c.loop-letter.invariant.within (omega arith) few in
    search (rules, more)
