-- The commands that a copy writes, read where their bytes stand. Assumes nothing.
use Rattle.std.proofs.Common.{◌≡◌, ℕ, ◌+◌, ◌*◌, ◌/◌, ◌%◌, ◌^◌, ◌<◌, true, List, [], ◌∷◌, ◌++◌, length, drop, ℤ, pos, Some, refl, ap, ◌∙◌, ap₂, arith}
use Rattle.std.specs.Option.{option_map}
use Rattle.std.proofs.lemmas.Bool.{lt-ltb, le-ltb, le-leb, cond-true}
use Rattle.numbers.specs.Bytes.{is_width, digits, complement, signed_fits, signed_at}
use Rattle.shelf.specs.Meaning.{Facts}
use Rattle.commands.specs.declared.kinds.Kind.TheVariants as K
use Rattle.commands.specs.Kinds.{kind_of}
use Rattle.commands.specs.Definitions.{Defined, name_length, definition_at}
use Rattle.commands.specs.Commands.{Cmd, put, put_rule, eop, right, down, fnt, fnt_def, read_by, sides, command_at}
use Rattle.copies.specs.Marks.{define_bytes}
use Rattle.readback.proofs.Stands.{behind, inside, read_at, taken, head_at, number-at, number_at-is, signed_at-is}

-- by the kind of the byte that stands there
command_by : (s : List ℕ) (at b : ℕ) (rest : List ℕ) → drop at s ≡ b ∷ rest → command_at s at ≡ read_by (kind_of b) s at
unfolding command_at
command_by s at b rest e =
    let h = head_at s at b rest e in
    cond-true _ _ _ (lt-ltb at (length s) h.0) ∙ ap (λ x. read_by (kind_of x) s at) h.1

kind_right : (w : ℕ) → 0 < w → w < 5 → kind_of (142 + w) ≡ (K.Right, w)
kind_right w p q = grind (arith, le-ltb, lt-ltb)

kind_down : (w : ℕ) → 0 < w → w < 5 → kind_of (156 + w) ≡ (K.Down, w)
kind_down w p q = grind (arith, le-ltb, lt-ltb)

width_is : (w : ℕ) → 0 < w → w < 5 → is_width w ≡ true
width_is w p q = grind arith

kind_select : (n : ℕ) → n < 64 → kind_of (171 + n) ≡ (K.FntNum, 0)
kind_select n h = grind (arith, le-ltb, lt-ltb)

module _ (s : List ℕ) (at : ℕ) (rest : List ℕ) where
  -- a command with a length of w bytes behind its byte
  length-at : (b w : ℕ) (z : ℤ) (cmd : ℤ → Cmd) → read_by (kind_of b) s at ≡ option_map (λ l. (cmd l, 1 + w)) (signed_at s (at + 1) w) → drop at s ≡ b ∷ (digits w (complement w z) ++ rest) → 0 < w → w < 5 → signed_fits w z ≡ true → command_at s at ≡ Some (cmd z, 1 + w)
  length-at b w z cmd read e p q f =
      command_by s at b _ e ∙ read
      ∙ ap (option_map (λ l. (cmd l, 1 + w))) (signed_at-is s (at + 1) w z rest (behind s at (b ∷ []) _ e 1 (at + 1) refl refl) (width_is w p q) p f)

  pub right-at : (w : ℕ) (z : ℤ) → drop at s ≡ (142 + w) ∷ (digits w (complement w z) ++ rest) → 0 < w → w < 5 → signed_fits w z ≡ true → command_at s at ≡ Some (right z, 1 + w)
  right-at w z e p q f = length-at (142 + w) w z right (ap (λ k. read_by k s at) (kind_right w p q)) e p q f

  pub down-at : (w : ℕ) (z : ℤ) → drop at s ≡ (156 + w) ∷ (digits w (complement w z) ++ rest) → 0 < w → w < 5 → signed_fits w z ≡ true → command_at s at ≡ Some (down z, 1 + w)
  down-at w z e p q f = length-at (156 + w) w z down (ap (λ k. read_by k s at) (kind_down w p q)) e p q f

  pub select_at : (n : ℕ) → drop at s ≡ (171 + n) ∷ rest → n < 64 → command_at s at ≡ Some (fnt n, 1)
  select_at n e h = grind (arith, command_by, kind_select, head_at)

  pub put-at : (c : ℕ) → drop at s ≡ 133 ∷ (c ∷ rest) → c < 256 → command_at s at ≡ Some (put (pos c), 2)
  put-at c e h =
      let low : c ≡ c % 256 = omega arith in
      let byte : drop (at + 1) s ≡ digits 1 c ++ rest = behind s at (133 ∷ []) (c ∷ rest) e 1 (at + 1) refl refl ∙ ap (λ x. x ∷ rest) low in
      command_by s at 133 _ e ∙ ap (λ o. option_map (λ z. (put z, 2)) (option_map pos o)) (number_at-is s (at + 1) 1 c rest byte refl (omega arith) (omega arith))

  pub end-at : drop at s ≡ 140 ∷ rest → command_at s at ≡ Some (eop, 1)
  end-at e = command_by s at 140 _ e

  pub rule_at : (height width : ℕ) → drop at s ≡ 137 ∷ (digits 4 height ++ (digits 4 width ++ rest)) → height < 2 ^ 31 → width < 2 ^ 31 → command_at s at ≡ Some (put_rule (pos height) (pos width), 9)
  rule_at height width e p q =
      let first = behind s at (137 ∷ []) (digits 4 height ++ (digits 4 width ++ rest)) e 1 (at + 1) refl refl in
      let second = behind s (at + 1) (digits 4 height) (digits 4 width ++ rest) first 4 (at + 1 + 4) refl refl in
      let a = signed_at-is s (at + 1) 4 (pos height) (digits 4 width ++ rest) first refl (omega arith) (lt-ltb (2 * height) (256 ^ 4) (omega arith)) in
      let b = signed_at-is s (at + 1 + 4) 4 (pos width) rest second refl (omega arith) (lt-ltb (2 * width) (256 ^ 4) (omega arith)) in
      command_by s at 137 _ e ∙ ap₂ (λ x y. option_map (λ p. (put_rule p.0 p.1, 9)) (sides x y)) a b

-- a definition whose fields fit their bytes
pub record Fields (n size : ℕ) (f : Facts) : Type 0 where
  pub number_fits : n < 256
  pub checksum-fits : f.checksum < 2 ^ 32
  pub size_fits : size < 2 ^ 32
  pub design-fits : f.design / 16 < 2 ^ 32
  pub name-fits : length f.name < 256

-- what such a definition says
abbrev pub defined_by : ℕ → ℕ → Facts → Defined
defined_by n size f = record { number = n; checksum = f.checksum; size = size; design = f.design / 16; name = f.name }

pub length_define : (n size : ℕ) (f : Facts) → length (define_bytes n size f) ≡ 16 + length f.name
unfolding define_bytes
length_define n size f = grind arith

module _ (s : List ℕ) (at n size : ℕ) (f : Facts) (rest : List ℕ) (e : drop at s ≡ define_bytes n size f ++ rest) (fields : Fields n size f) where
  from-number : drop (at + 1) s ≡ digits 1 n ++ (digits 4 f.checksum ++ (digits 4 size ++ (digits 4 (f.design / 16) ++ (0 ∷ (digits 1 (length f.name) ++ (f.name ++ rest))))))
  unfolding define_bytes
  from-number = behind s at (243 ∷ []) _ e 1 (at + 1) refl refl

  from-checksum : drop (at + 1 + 1) s ≡ digits 4 f.checksum ++ (digits 4 size ++ (digits 4 (f.design / 16) ++ (0 ∷ (digits 1 (length f.name) ++ (f.name ++ rest)))))
  from-checksum = behind s (at + 1) (digits 1 n) _ from-number 1 (at + 1 + 1) refl refl

  from-size : drop (at + 1 + 5) s ≡ digits 4 size ++ (digits 4 (f.design / 16) ++ (0 ∷ (digits 1 (length f.name) ++ (f.name ++ rest))))
  from-size = behind s (at + 1 + 1) (digits 4 f.checksum) _ from-checksum 4 (at + 1 + 5) refl (omega arith)

  from-design : drop (at + 1 + 9) s ≡ digits 4 (f.design / 16) ++ (0 ∷ (digits 1 (length f.name) ++ (f.name ++ rest)))
  from-design = behind s (at + 1 + 5) (digits 4 size) _ from-size 4 (at + 1 + 9) refl (omega arith)

  from_lengths : drop (at + 1 + 13) s ≡ 0 ∷ (digits 1 (length f.name) ++ (f.name ++ rest))
  from_lengths = behind s (at + 1 + 9) (digits 4 (f.design / 16)) _ from-design 4 (at + 1 + 13) refl (omega arith)

  from-name : drop (at + 1 + 15) s ≡ f.name ++ rest
  from-name = behind s (at + 1 + 13) (0 ∷ length f.name % 256 ∷ []) _ from_lengths 2 (at + 1 + 15) refl (omega arith)

  lengths_are : name_length s at 1 ≡ length f.name
  lengths_are =
      let low : length f.name ≡ length f.name % 256 = omega (arith, fields.name-fits) in
      ap₂ (λ (x y : ℕ). x + y) (read_at s (at + 1 + 13) (0 ∷ length f.name % 256 ∷ []) _ from_lengths 0 (at + 1 + 13) (omega arith) (omega arith))
      (read_at s (at + 1 + 13) (0 ∷ length f.name % 256 ∷ []) _ from_lengths 1 (at + 1 + 14) (omega arith) (omega arith)) ∙ omega arith

  pub definition-at : definition_at s at 1 ≡ Some (defined_by n size f)
  definition-at =
      let l = length_define n size f in
      let i = inside s at (define_bytes n size f) rest e (omega arith) in
      let k = lengths_are in
      rw (
        number-at s (at + 1) 1 n _ from-number fields.number_fits,
        number-at s (at + 1 + 1) 4 f.checksum _ from-checksum fields.checksum-fits,
        number-at s (at + 1 + 5) 4 size _ from-size fields.size_fits,
        number-at s (at + 1 + 9) 4 (f.design / 16) _ from-design fields.design-fits,
        k,
        taken s (at + 1 + 15) f.name rest from-name (length f.name) refl,
        le-leb (at + 1 + 15) (length s) (omega arith),
        le-leb (at + 1 + 15 + length f.name) (length s) (omega arith),
      )

  pub define_at : command_at s at ≡ Some (fnt_def (defined_by n size f), length (define_bytes n size f))
  unfolding define_bytes
  define_at = grind (arith, command_by, definition-at, length_define)
