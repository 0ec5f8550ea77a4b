-- A packet that is one character: it makes its marks and moves on, and then is at its end. Assumes nothing.
use Rattle.std.proofs.Common.{◌≡◌, ℕ, ◌+◌, false, List, [], length, ℤ, Some, Ok, Err, Option, Result, refl, subst, zero-add, arith}
use Rattle.shelf.specs.declared.marks.Link.{Link}
use Rattle.shelf.specs.declared.marks.Mark.{Mark}
use Rattle.shelf.specs.declared.refusals.Cause.{Cause}
use Rattle.shelf.specs.declared.refusals.Refusal.{Refusal}
use Rattle.shelf.specs.declared.refusals.Refusal.TheVariants.{Fault}
use Rattle.shelf.specs.Answers.{Answered}
use Rattle.shelf.specs.Outcomes.{well, fault, bind}
use Rattle.commands.specs.Commands.{set, command_at}
use Rattle.machine.specs.declared.registers.Registers.{Registers}
use Rattle.machine.specs.declared.registers.Chosen.{Chosen}
use Rattle.machine.specs.Steps.{World, State, go, across, advanced, typeset, with_at}
use Rattle.machine.specs.Runs.{finished, run_from}
use Rattle.machine.proofs.Onward.{by-set, fails-on, advances}
use Rattle.machine.proofs.Turning.{PassedOn, refused-here, carried_out}
use Rattle.machine.proofs.Looping.{begun, fails_there, goes_on, ends-well}

module _ (u : World) (s : List ℕ) (start : ℕ) (at : Registers) (font : Option Chosen) (c : ℤ) (is : command_at s start ≡ Some (set c, 1)) (last : start + 1 ≡ length s) where
  abbrev st : State
  st = record { at = at; font = font; frames = [] }

  module _ (chain chain' chain'' : List Link) (marks marks' : List Mark) (made : Result (ℕ × ℤ) Refusal) (a : Answered (typeset u.below font c at) chain chain' marks marks' made) where
    -- the character is refused, or goes too far
    there : (e r : Refusal) → Answered (bind (typeset u.below font c at) (advanced st)) chain chain' marks marks' (Err e) → PassedOn (u.link_at start) e r chain' chain'' → Answered (run_from u s start st) chain chain'' marks marks' (Err r)
    there e r x p =
        let t = refused-here u start (command_at s start) st chain chain' marks marks' (set c) 1 is e r chain'' (by-set u (set c) st chain chain' marks marks' (Err e) c refl x) p in
        fails_there u s (run_from u s start st) chain chain marks marks 0 start st (begun (run_from u s start st) chain marks) (omega (arith, last)) chain'' marks' marks' refl r t

    pub single-refused : (e r : Refusal) → made ≡ Err e → PassedOn (u.link_at start) e r chain' chain'' → Answered (run_from u s start st) chain chain'' marks marks' (Err r)
    single-refused e r q p = there e r (fails-on st (typeset u.below font c at) chain chain' marks marks' made a (advanced st) e q) p

    pub single-too_far : (n : ℕ) (l : ℤ) (k : Cause) (r : Refusal) → made ≡ Ok (n, l) → fault k [] ≡ across at l → PassedOn (u.link_at start) (Fault k 0) r chain' chain'' → Answered (run_from u s start st) chain chain'' marks marks' (Err r)
    single-too_far n l k r q far p = there (Fault k 0) r (advances st (typeset u.below font c at) chain chain' marks marks' made a n l (fault k []) q far) p

    pub single-well : (n : ℕ) (l : ℤ) (to : Registers) → u.page ≡ false → made ≡ Ok (n, l) → well to ≡ across at l → Answered (run_from u s start st) chain chain' marks marks' (Ok (n, tt))
    single-well n l to packet q near =
        let x = by-set u (set c) st chain chain' marks marks' (Ok (n, go (with_at st to))) c refl (advances st (typeset u.below font c at) chain chain' marks marks' made a n l (well to) q near) in
        let t = carried_out u start (command_at s start) st chain chain' marks marks' (set c) 1 is n (go (with_at st to)) x in
        let g = goes_on u s (run_from u s start st) chain chain marks marks 0 start st (begun (run_from u s start st) chain marks) (omega (arith, last)) chain' marks' marks' refl n 1 (with_at st to) (go (with_at st to)) refl (omega arith) (omega (arith, last)) t in
        let e : well tt ≡ finished u (with_at st to) = rw packet refl in
        let w = ends-well u s (run_from u s start st) chain chain' marks marks' (0 + n) (start + 1) (with_at st to) g (omega (arith, last)) e in
        subst (λ k. Answered (run_from u s start st) chain chain' marks marks' (Ok (k, tt))) (zero-add n) w
