-- Bytes written one after another are written at once, and change no length. Assumes nothing.
use Rattle.std.proofs.Common.{◌≡◌, ℕ, ◌+◌, ◌≤◌, List, [], ◌++◌, length, take, drop, sym, refl, ap, ◌∙◌, arith, add-zero, take-append-drop, length-append}
use lib.Seq.{paste}
use Rattle.std.proofs.lemmas.List.Edits.{paste_all, paste-paste, length-paste}
use Rattle.copies.specs.Writing.{overwritten}

as_paste : (at : ℕ) (a out : List ℕ) → overwritten at a out ≡ paste out at a (length a)
as_paste at a out = sym (paste_all out at a (length a) refl)

pub length_over : (at : ℕ) (a out : List ℕ) → at + length a ≤ length out → length (overwritten at a out) ≡ length out
length_over at a out h = ap length (as_paste at a out) ∙ length-paste out at a (length a) h (omega arith)

pub over_more : (at next : ℕ) (a b out : List ℕ) → next ≡ at + length a → next + length b ≤ length out → overwritten next b (overwritten at a out) ≡ overwritten at (a ++ b) out
over_more at next a b out e h =
    ap (λ n. overwritten n b (overwritten at a out)) e
    ∙ as_paste (at + length a) b (overwritten at a out)
    ∙ ap (λ l. paste l (at + length a) b (length b)) (as_paste at a out)
    ∙ paste-paste out at a b (length a) (length b) refl refl (omega arith)
    ∙ paste_all out at (a ++ b) (length a + length b) (sym (length-append a b))
    ∙ ap (λ n. take at out ++ ((a ++ b) ++ drop (at + n) out)) (sym (length-append a b))

pub over_none : (at : ℕ) (out : List ℕ) → overwritten at [] out ≡ out
over_none at out = ap (λ n. take at out ++ drop n out) (add-zero at) ∙ take-append-drop at out

-- the same by what each write leaves
pub over_two : (at next : ℕ) (a b was one two : List ℕ) → one ≡ overwritten at a was → next ≡ at + length a → two ≡ overwritten next b one → at + length (a ++ b) ≤ length was → two ≡ overwritten at (a ++ b) was
over_two at next a b was one two d e f h = f ∙ ap (overwritten next b) d ∙ over_more at next a b was e (omega (arith, h, length-append a b))

-- and there is room for the second where there is for both
pub over_room : (at next : ℕ) (a b was one : List ℕ) → one ≡ overwritten at a was → next ≡ at + length a → at + length (a ++ b) ≤ length was → next + length b ≤ length one
over_room at next a b was one d e h = omega (arith, h, length-append a b, ap length d, length_over at a was (omega (arith, h, length-append a b)))
