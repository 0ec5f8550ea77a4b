-- Runs over bytes that stand somewhere: what some bytes lead to, and then the run from behind them. Assumes nothing.
use Rattle.std.proofs.Common.{◌≡◌, ℕ, zero, suc, ◌+◌, ◌-◌, ◌<◌, true, List, [], ◌∷◌, ◌++◌, length, drop, Some, refl, ap, ◌∙◌, append_assoc, append-nil, arith, length-append}
use Rattle.shelf.specs.declared.marks.Mark.{Mark}
use Rattle.shelf.specs.Outcomes.{Outcome, well, ends, prepend, bind}
use Rattle.commands.specs.Commands.{Cmd, eop, command_at}
use Rattle.machine.specs.Steps.{World, State, Next, go, done, exec}
use Rattle.machine.specs.Runs.{turned, continued, run, run_from}
use Rattle.readback.proofs.Stands.{behind, inside, head_at}
use Rattle.readback.proofs.Commands.{end-at}

-- from one state these bytes make marks and lead to another state, wherever they stand
abbrev pub Leads : World → List ℕ → List ℕ → State → List Mark → State → Type 0
Leads u s bs st ms st' = (at : ℕ) (rest : List ℕ) → drop at s ≡ bs ++ rest → run_from u s at st ≡ prepend ms (run_from u s (at + length bs) st')

module _ (u : World) (s : List ℕ) where
  -- the bytes of a command that is done are passed over
  run_skip : (k at n next left : ℕ) (st : State) → next ≡ at + k → n ≡ left + k → run u s k at n st ≡ run u s 0 next left st
  unfolding run
  run_skip zero at n next left st e f = grind arith
  run_skip (suc k) at zero next left st e f = absurd (omega arith)
  run_skip (suc k) at (suc n) next left st e f = run_skip k (suc at) n next left st (omega arith) (omega arith)

  -- the command at a place, carried out, and what comes after it
  onwards : ℕ → ℕ × Next → Outcome (Unit {0})
  onwards at q = continued q.1 (λ st. run u s (q.0 - 1) (suc at) (length s - at - 1) st)

  run-turn : (at : ℕ) (st : State) → at < length s → run_from u s at st ≡ bind (turned u at (command_at s at) st) (onwards at)
  unfolding run onwards
  run-turn at st h = grind arith

  turned-well : (at : ℕ) (st : State) (cmd : Cmd) (len : ℕ) (ms : List Mark) (x : Next) → command_at s at ≡ Some (cmd, len) → exec u cmd st ≡ ends ms (well x) → turned u at (command_at s at) st ≡ ends ms (well (len, x))
  unfolding turned
  turned-well at st cmd len ms x e f = rw (e, f, append-nil ms)

  -- a command at its place is its step, and then the run from behind it
  pub command_leads : (bs : List ℕ) (st : State) (cmd : Cmd) (ms : List Mark) (st' : State) → 0 < length bs → ((at : ℕ) (rest : List ℕ) → drop at s ≡ bs ++ rest → command_at s at ≡ Some (cmd, length bs)) → exec u cmd st ≡ ends ms (well (go st')) → Leads u s bs st ms st'
  unfolding onwards
  command_leads bs st cmd ms st' some reads steps at rest e =
      let i = inside s at bs rest e some in
      run-turn at st (omega arith)
      ∙ ap (λ t. bind t (onwards at)) (turned-well at st cmd (length bs) ms (go st') (reads at rest e) steps)
      ∙ ap (prepend ms) (run_skip (length bs - 1) (suc at) (length s - at - 1) (at + length bs) (length s - (at + length bs)) st' (omega arith) (omega arith))

  pub nothing-leads : (st : State) → Leads u s [] st [] st
  nothing-leads st at rest e = grind arith

  pub then_leads : (bs cs : List ℕ) (st st' st'' : State) (ms ns : List Mark) → Leads u s bs st ms st' → Leads u s cs st' ns st'' → Leads u s (bs ++ cs) st (ms ++ ns) st''
  then_leads bs cs st st' st'' ms ns a b at rest e = grind (arith, append_assoc, length-append, behind)

  end_step : (st : State) → u.page ≡ true → st.frames ≡ [] → exec u eop st ≡ ends [] (well done)
  unfolding exec
  end_step st page none = rw (page, none)

  end-run : (st : State) → u.page ≡ true → st.frames ≡ [] → (at : ℕ) (rest : List ℕ) → drop at s ≡ 140 ∷ rest → run_from u s at st ≡ ends [] (well tt)
  unfolding onwards
  end-run st page none at rest e =
      run-turn at st (head_at s at 140 rest e).0
      ∙ ap (λ t. bind t (onwards at)) (turned-well at st eop 1 [] done (end-at s at rest e) (end_step st page none))

  -- a page ends at its 140
  pub end-leads : (bs : List ℕ) (st : State) (ms : List Mark) (st' : State) → Leads u s bs st ms st' → u.page ≡ true → st'.frames ≡ [] → (at : ℕ) (rest : List ℕ) → drop at s ≡ bs ++ (140 ∷ rest) → run_from u s at st ≡ ends ms (well tt)
  end-leads bs st ms st' a page none at rest e =
      a at (140 ∷ rest) e
      ∙ ap (prepend ms) (end-run st' page none (at + length bs) rest (behind s at bs (140 ∷ rest) e (length bs) (at + length bs) refl refl))
      ∙ ap (λ xs. ends xs (well tt)) (append-nil ms)
