-- What a command goes on to after its marks. Assumes nothing.
use Rattle.std.proofs.Common.{◌≡◌, ℕ, List, [], ℤ, Ok, Err, Option, Result, sym, refl, ap, ◌∙◌, subst}
use Rattle.shelf.specs.declared.marks.Link.{Link}
use Rattle.shelf.specs.declared.marks.Mark.{Mark}
use Rattle.shelf.specs.declared.refusals.Refusal.{Refusal}
use Rattle.shelf.specs.Answers.{Answered, ended, chain_of, overlay}
use Rattle.shelf.specs.Outcomes.{Outcome, Ending, well, ends, bind}
use Rattle.shelf.proofs.Compose.{refused, then_silent}
use Rattle.shelf.specs.Served.{silent}
use Rattle.machine.specs.declared.registers.Registers.{Registers}
use Rattle.commands.specs.declared.parts.Command.{Command}
use Rattle.commands.specs.declared.parts.Command.TheVariants as C
use Rattle.commands.specs.Commands.{Cmd, set, put, set_rule, put_rule}
use Rattle.commands.specs.Shapes.{plain}
use Rattle.machine.specs.Steps.{World, State, Next, go, across, moved, advanced, kept, typeset, ruled, silently, exec}

module _ (st : State) (o : Outcome ℤ) (chain chain' : List Link) (marks marks' : List Mark) (made : Result (ℕ × ℤ) Refusal) (a : Answered o chain chain' marks marks' made) where
  pub fails-on : (f : ℤ → Outcome Next) (e : Refusal) → made ≡ Err e → Answered (bind o f) chain chain' marks marks' (Err e)
  fails-on f e q = refused o.marks o.ending f chain chain' marks marks' e (subst (Answered o chain chain' marks marks') q a)

  pub goes_on : (f : ℤ → Outcome Next) (n : ℕ) (l : ℤ) (e : Ending Next) → made ≡ Ok (n, l) → f l ≡ ends [] e → Answered (bind o f) chain (overlay (chain_of e) chain') marks marks' (ended n e)
  goes_on f n l e q p = then_silent o.marks o.ending f chain chain' marks marks' n l e (subst (Answered o chain chain' marks marks') q a) p

  pub keeps : (n : ℕ) (l : ℤ) → made ≡ Ok (n, l) → Answered (bind o (kept st)) chain chain' marks marks' (Ok (n, go st))
  keeps n l q = goes_on (kept st) n l (well (go st)) q refl

  pub advances : (n : ℕ) (l : ℤ) (e : Ending Registers) → made ≡ Ok (n, l) → e ≡ across st.at l → Answered (bind o (advanced st)) chain (overlay (chain_of (moved st e)) chain') marks marks' (ended n (moved st e))
  advances n l e q p = goes_on (advanced st) n l (moved st e) q (ap (λ x. ends [] (moved st x)) (sym p))

-- the commands that make marks
module _ (u : World) (k : Cmd) (st : State) (chain chain' : List Link) (marks marks' : List Mark) (r : Result (ℕ × Next) Refusal) where
  under : (k' : Cmd) → k ≡ k' → Answered (exec u k' st) chain chain' marks marks' r → Answered (exec u k st) chain chain' marks marks' r
  under k' e a = subst (λ x. Answered (exec u x st) chain chain' marks marks' r) (sym e) a

  pub by-set : (c : ℤ) → k ≡ set c → Answered (bind (typeset u.below st.font c st.at) (advanced st)) chain chain' marks marks' r → Answered (exec u k st) chain chain' marks marks' r
  unfolding exec
  by-set c e a = under (set c) e a

  pub by-put : (c : ℤ) → k ≡ put c → Answered (bind (typeset u.below st.font c st.at) (kept st)) chain chain' marks marks' r → Answered (exec u k st) chain chain' marks marks' r
  unfolding exec
  by-put c e a = under (put c) e a

  pub by-set_rule : (a b : ℤ) (x y : Option ℤ) → k ≡ set_rule a b → x ≡ u.measure a → y ≡ u.measure b → Answered (bind (ruled x y st.at) (advanced st)) chain chain' marks marks' r → Answered (exec u k st) chain chain' marks marks' r
  unfolding exec
  by-set_rule a b x y e p q z = under (set_rule a b) e (rw (← p, ← q) z)

  pub by-put_rule : (a b : ℤ) (x y : Option ℤ) → k ≡ put_rule a b → x ≡ u.measure a → y ≡ u.measure b → Answered (bind (ruled x y st.at) (kept st)) chain chain' marks marks' r → Answered (exec u k st) chain chain' marks marks' r
  unfolding exec
  by-put_rule a b x y e p q z = under (put_rule a b) e (rw (← p, ← q) z)

-- a command that makes no mark
pub is-silent : (u : World) (k : Command) (st : State) → ((c : ℤ) → k ≡ C.Set c → ⊥) → ((c : ℤ) → k ≡ C.Put c → ⊥) → ((a b : ℤ) → k ≡ C.SetRule a b → ⊥) → ((a b : ℤ) → k ≡ C.PutRule a b → ⊥) → exec u (plain k) st ≡ ends [] (silently u (plain k) st)
unfolding exec
is-silent u (C.Set c) st s p q r = absurd (s c refl)
is-silent u (C.Put c) st s p q r = absurd (p c refl)
is-silent u (C.SetRule a b) st s p q r = absurd (q a b refl)
is-silent u (C.PutRule a b) st s p q r = absurd (r a b refl)
is-silent u C.Nop st s p q r = refl
is-silent u C.Eop st s p q r = refl
is-silent u C.Push st s p q r = refl
is-silent u C.Pop st s p q r = refl
is-silent u (C.Right b) st s p q r = refl
is-silent u C.W0 st s p q r = refl
is-silent u (C.W b) st s p q r = refl
is-silent u C.X0 st s p q r = refl
is-silent u (C.X b) st s p q r = refl
is-silent u (C.Down b) st s p q r = refl
is-silent u C.Y0 st s p q r = refl
is-silent u (C.Y b) st s p q r = refl
is-silent u C.Z0 st s p q r = refl
is-silent u (C.Z b) st s p q r = refl
is-silent u (C.Fnt n) st s p q r = refl
is-silent u C.Xxx st s p q r = refl
is-silent u (C.FntDef d) st s p q r = refl
is-silent u C.Undefined st s p q r = refl

pub silent-step : (u : World) (k : Cmd) (st : State) (e : Ending Next) (chain : List Link) (marks : List Mark) → exec u k st ≡ ends [] (silently u k st) → e ≡ silently u k st → Answered (exec u k st) chain (overlay (chain_of e) chain) marks marks (ended 0 e)
silent-step u k st e chain marks q p = subst (λ o. Answered o chain (overlay (chain_of e) chain) marks marks (ended 0 e)) (ap (ends []) p ∙ sym q) (silent e chain marks)
