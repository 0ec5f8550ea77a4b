-- A packet that begins with its length in one byte, by the bytes from its place on. Assumes nothing.
use Rattle.std.proofs.Common.{◌≡◌, ℕ, ◌+◌, ◌*◌, ◌≤◌, leb, eqb, List, length, get_or, drop, None, Option, sym, ap, ◌∙◌, arith}
use Rattle.std.proofs.lemmas.Bool.{le-leb, cond-true, cond-false, ne_eqb}
use Rattle.std.proofs.lemmas.List.{get_or-drop}
use Rattle.numbers.specs.Bytes.{number}
use Rattle.vf.specs.declared.packets.Coded.{Coded}
use Rattle.vf.specs.Packets.{held, long, short, packet_at}

module _ (s t : List ℕ) (at : ℕ) (rest : t ≡ drop at s) where
  byte : (i j : ℕ) → j ≡ at + i → get_or t i 0 ≡ get_or s j 0
  byte i j e = rw (rest, e) (get_or-drop at s i 0)

  pub short_width : (w : ℕ) → w ≡ 0 + get_or t 2 0 * 65536 + get_or t 3 0 * 256 + get_or t 4 0 → w ≡ number s (at + 2) 3
  short_width w e =
      let a = byte 2 (at + 2 + 0) (omega arith) in
      let b = byte 3 (at + 2 + 1) (omega arith) in
      let c = byte 4 (at + 2 + 2) (omega arith) in
      omega (arith, e, a, b, c)

  pub short_is : (n code w : ℕ) (r : Option Coded) → r ≡ held s code (at + 5) n w → n ≡ get_or t 0 0 → code ≡ get_or t 1 0 → w ≡ number s (at + 2) 3 → (n ≡ 242 → ⊥) → at + 5 ≤ length s → r ≡ packet_at s at
  short_is n code w r is first second width other room =
      let f : n ≡ get_or s at 0 = first ∙ byte 0 at (omega arith) in
      let g : code ≡ get_or s (at + 1) 0 = second ∙ byte 1 (at + 1) (omega arith) in
      is ∙ (ap (λ k. held s code (at + 5) k w) f ∙ (ap (λ k. held s k (at + 5) (get_or s at 0) w) g ∙ ap (held s (get_or s (at + 1) 0) (at + 5) (get_or s at 0)) width))
      ∙ (sym (cond-true (leb (at + 5) (length s)) _ None (le-leb (at + 5) (length s) room)) ∙ sym (cond-false (eqb (get_or s at 0) 242) (long s at) (short s at) (ne_eqb (get_or s at 0) 242 (λ q. other (f ∙ q)))))
