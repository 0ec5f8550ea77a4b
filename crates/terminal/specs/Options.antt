-- What the options of a command give, by its words.
use Rattle.std.specs.Prelude.{◌≡◌, ℕ, Bool, true, false, cond, nat_lt, List, [], ◌∷◌, ◌++◌, length, map, ℤ, Option, Some, None, Result, Ok, Err, String}
use Rattle.std.specs.declared.alloc.Global.{Global}
use Rattle.std.specs.Option.{option_map}
use Rattle.std.specs.String.{string_bytes}
use Rattle.terminal.specs.declared.kinds.Kind.{Kind}
use Rattle.terminal.specs.declared.kinds.Kind.TheVariants.{Tfm, Rank, Font, Size, Code, At, Text, Out, Pages}
use Rattle.terminal.specs.declared.failure.Failure.{Failure}
use Rattle.terminal.specs.declared.failure.Failure.TheVariants.{Told, Output, NoMemory}
use Rattle.terminal.specs.declared.options.Options.{Options}
use Rattle.terminal.specs.Words.{named}
use Rattle.terminal.specs.Values.{Named, font_view, font_given, fonts_given, size_given, code_given, point_given, range_given}

pub record Given : Type 0 where
  pub fonts : List Named
  pub ranks : List (List Named)
  pub font : Option (List ℕ)
  pub size : Option ℕ
  pub code : Option ℕ
  pub at : Option (ℤ × ℤ)
  pub text : Option (List ℕ)
  pub out : Option (List ℕ)
  pub pages : Option (ℕ × ℕ)

abbrev pub fresh : Given
fresh = record { fonts = []; ranks = []; font = None; size = None; code = None; at = None; text = None; out = None; pages = None }

abbrev pub given_of : Options → Given
given_of o =
    record {
      fonts = map font_view o.fonts.items;
      ranks = map (λ r. map font_view r.items) o.ranks.items;
      font = option_map (λ s. s.now) o.font;
      size = o.size;
      code = o.code;
      at = o.at;
      text = option_map (λ s. s.now) o.text;
      out = option_map (λ s. s.now) o.out;
      pages = o.pages;
    }

-- an option's value put to what was given before; none where the option does not take it
abbrev pub put : Given → Kind → List ℕ → Option Given
put g Tfm value = option_map (λ f. record g { fonts = g.fonts ++ f ∷ [] }) (font_given value)
put g Rank value = cond (nat_lt (length g.ranks) 4) (option_map (λ fs. record g { ranks = g.ranks ++ fs ∷ [] }) (fonts_given value)) None
put g Font value = Some (record g { font = Some value })
put g Size value = option_map (λ n. record g { size = Some n }) (size_given value)
put g Code value = option_map (λ n. record g { code = Some n }) (code_given value)
put g At value = option_map (λ p. record g { at = Some p }) (point_given value)
put g Text value = Some (record g { text = Some value })
put g Out value = Some (record g { out = Some value })
put g Pages value = option_map (λ r. record g { pages = Some r }) (range_given value)

-- whether there is such a value, and what is given then
abbrev pub PutAs : Option Given → Given → Bool → Type 0
PutAs given after true = given ≡ Some after
PutAs given after false = given ≡ None

abbrev pub then_put : Given → List ℕ → Option Kind → Option Given
then_put g value (Some kind) = put g kind value
then_put g value None = None

-- an option that the command knows, with its value
abbrev pub taken : List Kind → Given → List ℕ → List ℕ → Option Given
taken known g option value = then_put g value (named known option)

abbrev pub and_then : Option Given → (Given → Option Given) → Option Given
and_then (Some g) on = on g
and_then None on = None

-- all words, two by two
unfoldable pub parsed : List Kind → Given → List (String Global) → Option Given
parsed known g [] = Some g
parsed known g (option ∷ []) = None
parsed known g (option ∷ value ∷ more) = and_then (taken known g (string_bytes option) (string_bytes value)) (λ after. parsed known after more)

-- what is given is answered, and a failure is told where nothing is; memory may be wanting either way
abbrev pub ToldUnless : {A B : Type 0} → Option A → (B → A) → Result B Failure → Type 0
ToldUnless given view (Ok answer) = given ≡ Some (view answer)
ToldUnless given view (Err (Told text)) = given ≡ None
ToldUnless given view (Err (Output error)) = ⊥
ToldUnless given view (Err (NoMemory error)) = Unit {0}
