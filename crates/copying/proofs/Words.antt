-- A `--check` in front or behind. Assumes nothing.
use Rattle.std.proofs.Common.{◌≡◌, ◌-◌, ◌<◌, Bool, true, false, List, [], ◌∷◌, length, get_or, take, refl, String, Global, arith, ap, ◌∙◌}
use Rattle.std.proofs.lemmas.List.{get_or_default}
use Rattle.copying.specs.Jobs.{is_check, without_check}

abbrev Words : Type 0
Words = List (String Global)

last-is : (words : Words) (d e : String Global) (b : Bool) → 0 < length words → is_check (get_or words (length words - 1) e) ≡ b → is_check (get_or words (length words - 1) d) ≡ b
last-is words d e b h q = ap is_check (get_or_default words (length words - 1) d e (omega arith)) ∙ q

pub behind : (words : Words) (d e : String Global) → 0 < length words → is_check (get_or words 0 d) ≡ false → is_check (get_or words (length words - 1) e) ≡ true → ◌≡◌ {A = Bool × Words} (true, take (length words - 1) words) (without_check words)
behind [] d e h p q = absurd (omega arith)
behind (first ∷ more) d e h p q = rw (p, last-is (first ∷ more) first e true h q) refl

pub nowhere : (words : Words) (d e : String Global) → 0 < length words → is_check (get_or words 0 d) ≡ false → is_check (get_or words (length words - 1) e) ≡ false → ◌≡◌ {A = Bool × Words} (false, words) (without_check words)
nowhere [] d e h p q = absurd (omega arith)
nowhere (first ∷ more) d e h p q = rw (p, last-is (first ∷ more) first e false h q) refl

pub no-words : (words : Words) → length words < 1 → ◌≡◌ {A = Bool × Words} (false, words) (without_check words)
no-words [] h = refl
no-words (first ∷ more) h = absurd (omega arith)
