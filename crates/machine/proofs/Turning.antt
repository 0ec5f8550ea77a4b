-- One command carried out at its place. Assumes nothing.
use Rattle.std.proofs.Common.{◌≡◌, ℕ, List, [], Some, None, Ok, Err, Option, sym, refl, ap, ◌∙◌, subst}
use Rattle.shelf.specs.declared.marks.Link.{Link}
use Rattle.shelf.specs.declared.marks.Mark.{Mark}
use Rattle.shelf.specs.declared.refusals.Cause.{Cause}
use Rattle.shelf.specs.declared.refusals.Cause.TheVariants.{PastEnd}
use Rattle.shelf.specs.declared.refusals.Refusal.{Refusal}
use Rattle.shelf.specs.declared.refusals.Refusal.TheVariants.{Fault, MarksFull}
use Rattle.shelf.specs.Answers.{Answered, link_count, link_written}
use Rattle.shelf.specs.Outcomes.{Outcome, well, fault, ends, faulty, bind, link, link_ending}
use Rattle.shelf.proofs.Compose.{accepted, passed_on, refused, then_silent}
use Rattle.shelf.specs.Served.{silent}
use Rattle.commands.specs.Commands.{Cmd}
use Rattle.machine.specs.Steps.{World, State, Next, exec}
use Rattle.machine.specs.Runs.{turned}

-- what passing on a refusal promises
pub record PassedOn (l : Link) (e r : Refusal) (chain chain' : List Link) : Type 0 where
  pub fault : (k : Cause) (n : ℕ) → e ≡ Fault k n → (r ≡ Fault k (link_count n)) × (chain' ≡ link_written n l chain)
  pub full : e ≡ MarksFull → (r ≡ MarksFull) × (chain' ≡ chain)

pub own_fault : {W : Type 0} (l : Link) (k : Cause) (r : Refusal) (chain chain' : List Link) (marks : List Mark) → PassedOn l (Fault k 0) r chain chain' → Answered {W = W} (link l (faulty k)) chain chain' marks marks (Err r)
own_fault l k r chain chain' marks p = passed_on l (faulty k) chain chain chain' marks marks (Fault k 0) r (silent (fault k []) chain marks) p.fault p.full

-- a link changes nothing where all is well
link-well : {W : Type 0} (l : Link) (o : Outcome W) (w : W) → o.ending ≡ well w → link l o ≡ o
link-well l o w e = ap (λ x. ends o.marks (link_ending l x)) e ∙ sym (ap (ends o.marks) e)

module _ (u : World) (at : ℕ) (c : Option (Cmd × ℕ)) (st : State) (chain chain' : List Link) (marks marks' : List Mark) where
  pub cut_off : (r : Refusal) → c ≡ None → PassedOn (u.link_at at) (Fault PastEnd 0) r chain chain' → Answered (turned u at c st) chain chain' marks marks (Err r)
  unfolding turned
  cut_off r e p = subst (λ x. Answered (turned u at x st) chain chain' marks marks (Err r)) (sym e) (own_fault (u.link_at at) PastEnd r chain chain' marks p)

  module _ (k : Cmd) (n : ℕ) (is : c ≡ Some (k, n)) where
    pub refused-here : (e r : Refusal) (chain'' : List Link) → Answered (exec u k st) chain chain' marks marks' (Err e) → PassedOn (u.link_at at) e r chain' chain'' → Answered (turned u at c st) chain chain'' marks marks' (Err r)
    unfolding turned
    refused-here e r chain'' a p =
        let o = exec u k st in
        let b = refused o.marks o.ending (λ x. ends [] (well (n, x))) chain chain' marks marks' e a in
        subst (λ x. Answered (turned u at x st) chain chain'' marks marks' (Err r)) (sym is)
        (passed_on (u.link_at at) (bind o (λ x. ends [] (well (n, x)))) chain chain' chain'' marks marks' e r b p.fault p.full)

    pub carried_out : (m : ℕ) (x : Next) → Answered (exec u k st) chain chain' marks marks' (Ok (m, x)) → Answered (turned u at c st) chain chain' marks marks' (Ok (m, (n, x)))
    unfolding turned
    carried_out m x a =
        let o = exec u k st in
        let f : Next → Outcome (ℕ × Next) = λ y. ends [] (well (n, y)) in
        let b = then_silent o.marks o.ending f chain chain' marks marks' m x (well (n, x)) a refl in
        let t = accepted (bind o f).marks (bind o f).ending chain chain' marks marks' m (n, x) b in
        subst (λ y. Answered (turned u at y st) chain chain' marks marks' (Ok (m, (n, x)))) (sym is)
        (subst (λ y. Answered y chain chain' marks marks' (Ok (m, (n, x)))) (sym (link-well (u.link_at at) (bind o f) (n, x) t.end)) b)

pub at-link : (l l' : Link) (e r : Refusal) (chain chain' : List Link) → l ≡ l' → ((k : Cause) (n : ℕ) → e ≡ Fault k n → (r ≡ Fault k (link_count n)) × (chain' ≡ link_written n l chain)) → (e ≡ MarksFull → (r ≡ MarksFull) × (chain' ≡ chain)) → PassedOn l' e r chain chain'
at-link l l' e r chain chain' same f m = subst (λ x. PassedOn x e r chain chain') same (record { fault = f; full = m })
