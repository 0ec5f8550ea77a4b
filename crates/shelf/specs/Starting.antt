-- What passed checks tell. Assumes nothing.
use Rattle.std.specs.Prelude.{◌≡◌, ℕ, ◌<◌, Bool, true, false, cond, ◌&&◌, ℤ, Ok, Err, Result, nat_lt, refl}
use Rattle.std.proofs.Common.{sym, ap, ◌∙◌, arith}
use Rattle.std.proofs.lemmas.Bool.{ltb-true, lt-ltb, and_parts}
use Rattle.numbers.specs.Lengths.{good_size, in_range}
use Rattle.shelf.specs.declared.refusals.Cause.{Cause}
use Rattle.shelf.specs.declared.refusals.Cause.TheVariants.{NoFont, OutOfRange, BadSize}
use Rattle.shelf.specs.Meaning.{started}

-- the font is there, the size is one, and the start point in range
pub record Passed (n k size : ℕ) (h v : ℤ) (p : ℤ × ℤ) : Type 0 where
  pub within : k < n
  pub sized : good_size size ≡ true
  pub across : in_range h ≡ true
  pub down : in_range v ≡ true
  pub point : p ≡ (h, v)

pub passed : (n k size : ℕ) (h v : ℤ) (p : ℤ × ℤ) → started n k size h v ≡ Ok p → Passed n k size h v p
passed n k size h v p e = by (nat_lt k n) (good_size size) (in_range h && in_range v) refl refl refl e
  where
    never : {X : Type 0} (cause : Cause) → ◌≡◌ {A = Result (ℤ × ℤ) Cause} (Err cause) (Ok p) → X
    never cause q = absurd (let z : ◌≡◌ {A = ℕ} 0 1 = cc in omega arith)

    by : (a b c : Bool) → nat_lt k n ≡ a → good_size size ≡ b → (in_range h && in_range v) ≡ c → cond a (cond b (cond c (Ok (h, v)) (Err OutOfRange)) (Err BadSize)) (Err NoFont) ≡ Ok p → Passed n k size h v p
    by true true true ea eb ec q =
        let both = and_parts (in_range h) (in_range v) ec in
        record { within = ltb-true k n ea; sized = eb; across = both.0; down = both.1; point = cc }
    by true true false ea eb ec q = never OutOfRange q
    by true false c ea eb ec q = never BadSize q
    by false b c ea eb ec q = never NoFont q

-- they pass for any font that is there
pub passed-other : (n k m j size : ℕ) (h v : ℤ) (p : ℤ × ℤ) → j < m → started n k size h v ≡ Ok p → started m j size h v ≡ Ok p
passed-other n k m j size h v p g e =
    let t : Result (ℤ × ℤ) Cause = cond (good_size size) (cond (in_range h && in_range v) (Ok (h, v)) (Err OutOfRange)) (Err BadSize) in
    ap (λ b. cond b t (Err NoFont)) (lt-ltb j m g) ∙ sym (ap (λ b. cond b t (Err NoFont)) (lt-ltb k n (passed n k size h v p e).within)) ∙ e
