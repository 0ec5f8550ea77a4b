-- Options read from words, two by two.
use Rattle.std.proofs.Common.{arith, ◌≡◌, ℕ, ◌-◌, ◌≤◌, List, [], ◌∷◌, length, get_or, take, drop, Option, Some, None, Err, ◌∙◌, refl, String}
use Rattle.std.specs.declared.alloc.Global.{Global}
use Rattle.std.specs.String.{string_bytes}
use Rattle.std.proofs.lemmas.List.{take_all}
use Rattle.terminal.specs.declared.kinds.Kind.{Kind}
use Rattle.terminal.specs.declared.failure.Failure.{Failure}
use Rattle.terminal.specs.declared.failure.Failure.TheVariants.{Told, Output, NoMemory}
use Rattle.terminal.specs.Options.{Given, taken, and_then, parsed, given_of, ToldUnless}

-- an option and its value, and then the words behind them
pair : (known : List Kind) (g : Given) (xs : List (String Global)) (option value : String Global) → 2 ≤ length xs → option ≡ get_or xs 0 option → value ≡ get_or xs 1 value → parsed known g xs ≡ and_then (taken known g (string_bytes option) (string_bytes value)) (λ after. parsed known after (take (length xs - 2) (drop 2 xs)))
unfolding parsed
pair known g [] option value h o v = absurd (omega arith)
pair known g (x ∷ []) option value h o v = absurd (omega arith)
pair known g (x ∷ y ∷ more) option value h o v =
    let e : take (length (x ∷ y ∷ more) - 2) more ≡ more = take_all _ more (omega arith) in
    rw (e, o, v) refl

module _ (known : List Kind) (g : Given) (xs : List (String Global)) (option value : String Global) (o v : List ℕ) (h : 2 ≤ length xs) (first : option ≡ get_or xs 0 option) (second : value ≡ get_or xs 1 value) (text : o ≡ string_bytes option) (worth : v ≡ string_bytes value) where
  pub on : (after : Given) → taken known g o v ≡ Some after → parsed known g xs ≡ parsed known after (take (length xs - 2) (drop 2 xs))
  on after e = pair known g xs option value h first second ∙ (rw (← text, ← worth, e) refl)

  pub stopped : taken known g o v ≡ None → parsed known g xs ≡ None
  stopped e = pair known g xs option value h first second ∙ (rw (← text, ← worth, e) refl)

  -- a failure to take one option is the answer
  pub failed : {B : Type 0} (view : B → Given) (given : Option Given) (f : Failure) (mine : List Kind) → mine ≡ known → given ≡ parsed known g xs → ToldUnless {B = B} (taken mine g o v) view (Err f) → ToldUnless given given_of (Err f)
  failed view given (Told t) mine k same e = same ∙ stopped (rw k at e)
  failed view given (Output t) mine k same e = e
  failed view given (NoMemory t) mine k same e = tt

-- no word gives no more, and one word alone is none
pub parsed_end : (known : List Kind) (g : Given) (xs : List (String Global)) → length xs ≡ 0 → parsed known g xs ≡ Some g
unfolding parsed
parsed_end known g [] e = refl
parsed_end known g (x ∷ xs) e = absurd (omega arith)

pub parsed_odd : (known : List Kind) (g : Given) (xs : List (String Global)) → length xs ≡ 1 → parsed known g xs ≡ None
unfolding parsed
parsed_odd known g [] e = absurd (omega arith)
parsed_odd known g (x ∷ []) e = refl
parsed_odd known g (x ∷ y ∷ xs) e = absurd (omega arith)
