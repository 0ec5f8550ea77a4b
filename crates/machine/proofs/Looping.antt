-- The loop over commands: what has been done stands in front of what is to come. Assumes nothing.
use Rattle.std.proofs.Common.{◌≡◌, ℕ, zero, suc, ◌+◌, ◌-◌, ◌<◌, ◌≤◌, List, [], ◌++◌, length, take, drop, Ok, Err, Result, sym, refl, ap, ◌∙◌, subst, append-nil, arith, length-drop, take-append-drop}
use borrow.Rule.Slice.PartMut.{put_mid}
use Rattle.std.proofs.lemmas.List.{drop_all, length-take-le}
use Rattle.shelf.specs.declared.marks.Link.{Link}
use Rattle.shelf.specs.declared.marks.Mark.{Mark}
use Rattle.shelf.specs.declared.refusals.Cause.{Cause}
use Rattle.shelf.specs.declared.refusals.Refusal.{Refusal}
use Rattle.shelf.specs.declared.refusals.Refusal.TheVariants.{Fault}
use Rattle.shelf.specs.Answers.{Answered}
use Rattle.shelf.specs.Outcomes.{Outcome, well, fault, ends, faulty, bind, onward, prepend, link}
use Rattle.shelf.proofs.Compose.{accepted, refused, then_silent, failed, done as all_made, after, more_within, more-long, more-drop, more-total}
use Rattle.commands.specs.Commands.{command_at}
use Rattle.machine.specs.Steps.{World, State, Next, go, done}
use Rattle.machine.specs.Runs.{turned, finished, continued, run, run_from}
use Rattle.machine.proofs.Turning.{PassedOn, own_fault}

-- what a call with the part `marks[used..]` leaves
pub put_rest : {X : Type 0} (xs ys : List X) (a : ℕ) → put_mid a (length xs - a) xs ys ≡ take a xs ++ ys
put_rest xs ys a =
    let h : length (drop a xs) ≤ length xs - a = omega (arith, length-drop a xs) in
    ap (λ t. take a xs ++ (ys ++ t)) (drop_all (length xs - a) (drop a xs) h) ∙ ap (λ t. take a xs ++ t) (append-nil ys)

-- `used` marks are made, and the rest of the run is to come; the caller's lists are otherwise as they were
pub record Going (total rest : Outcome (Unit {0})) (chain₀ chain : List Link) (first marks : List Mark) (used : ℕ) : Type 0 where
  pub within : used ≤ length marks
  pub same : chain ≡ chain₀
  pub long : length marks ≡ length first
  pub past : drop used marks ≡ drop used first
  pub splits : total ≡ prepend (take used marks) rest

pub begun : (o : Outcome (Unit {0})) (chain : List Link) (marks : List Mark) → Going o o chain chain marks marks 0
begun o chain marks = record { within = omega arith; same = refl; long = refl; past = refl; splits = refl }

module _ (u : World) (s : List ℕ) where
  run_skip : (k at n next left : ℕ) (st : State) → next ≡ at + k → n ≡ left + k → run u s k at n st ≡ run u s 0 next left st
  unfolding run
  run_skip zero at n next left st e f =
      let a : at ≡ next = omega arith in
      let b : n ≡ left = omega arith in
      rw (a, b)
  run_skip (suc k) at zero next left st e f = absurd (omega arith)
  run_skip (suc k) at (suc n) next left st e f = run_skip k (suc at) n next left st (omega arith) (omega arith)

  on-from : ℕ → ℕ × Next → Outcome (Unit {0})
  on-from at q = continued q.1 (λ st. run u s (q.0 - 1) (suc at) (length s - at - 1) st)

  run-turn : (at : ℕ) (st : State) → at < length s → run_from u s at st ≡ bind (turned u at (command_at s at) st) (on-from at)
  unfolding run on-from
  run-turn at st h = let f : length s - at ≡ suc (length s - at - 1) = omega arith in rw f refl

  run_end : (at : ℕ) (st : State) → length s ≤ at → run_from u s at st ≡ link (u.link_at at) (ends [] (finished u st))
  unfolding run
  run_end at st h = let f : length s - at ≡ 0 = omega arith in rw f refl

  run_on : (at n : ℕ) (st : State) → 0 < n → at + n ≤ length s → on-from at (n, go st) ≡ run_from u s (at + n) st
  unfolding on-from
  run_on at n st some h = run_skip (n - 1) (suc at) (length s - at - 1) (at + n) (length s - (at + n)) st (omega arith) (omega arith)

  module _ (total : Outcome (Unit {0})) (chain₀ chain : List Link) (first marks : List Mark) (used at : ℕ) (st : State) (i : Going total (run_from u s at st) chain₀ chain first marks used) where
    here : List Link → List Mark → Result (ℕ × Unit {0}) Refusal → Type 0
    here chain' marks' r = Answered total chain₀ chain' first marks' r

    from-chain : (chain' : List Link) (marks' : List Mark) (r : Result (ℕ × Unit {0}) Refusal) → Answered total chain chain' first marks' r → Answered total chain₀ chain' first marks' r
    from-chain chain' marks' r a = subst (λ t. Answered total t chain' first marks' r) i.same a

    -- the bytes are at their end
    pub fails-at-end : (k : Cause) (r : Refusal) (chain' : List Link) → length s ≤ at → fault k [] ≡ finished u st → PassedOn (u.link_at at) (Fault k 0) r chain chain' → Answered total chain₀ chain' first marks (Err r)
    fails-at-end k r chain' h e p =
        let o = run_end at st h ∙ ap (λ x. link (u.link_at at) (ends [] x)) (sym e) in
        from-chain chain' marks (Err r)
        (failed total chain first marks used i.within i.long i.past (link (u.link_at at) (faulty k)) chain' (drop used marks) marks r
        (i.splits ∙ ap (prepend (take used marks)) o) (own_fault (u.link_at at) k r chain chain' (drop used marks) p) (sym (take-append-drop used marks)))

    pub ends-well : length s ≤ at → well tt ≡ finished u st → Answered total chain₀ chain first marks (Ok (used, tt))
    ends-well h e =
        let o = run_end at st h ∙ ap (λ x. link (u.link_at at) (ends [] x)) (sym e) in
        from-chain chain marks (Ok (used, tt)) (all_made total chain first marks used i.within i.long i.past (well tt) (i.splits ∙ ap (prepend (take used marks)) o))

    -- the marks that one command more makes find room
    pub makes-room : (chain' : List Link) (rest' : List Mark) (n : ℕ) (q : ℕ × Next) → Answered (turned u at (command_at s at) st) chain chain' (drop used marks) rest' (Ok (n, q)) → used + n ≤ length marks
    makes-room chain' rest' n q a =
        let t = turned u at (command_at s at) st in
        let b = accepted t.marks t.ending chain chain' (drop used marks) rest' n q a in
        omega (arith, length-drop used marks, b.fits, b.count, i.within)

    module _ (h : at < length s) (chain' : List Link) (rest' marks' : List Mark) (m : marks' ≡ take used marks ++ rest') where
      pub fails_there : (e : Refusal) → Answered (turned u at (command_at s at) st) chain chain' (drop used marks) rest' (Err e) → Answered total chain₀ chain' first marks' (Err e)
      fails_there e a =
          let t = turned u at (command_at s at) st in
          let b = refused t.marks t.ending (on-from at) chain chain' (drop used marks) rest' e a in
          from-chain chain' marks' (Err e)
          (failed total chain first marks used i.within i.long i.past (bind t (on-from at)) chain' rest' marks' e (i.splits ∙ ap (prepend (take used marks)) (run-turn at st h)) b m)

      pub is-done : (n l : ℕ) (x : Next) → x ≡ done → Answered (turned u at (command_at s at) st) chain chain' (drop used marks) rest' (Ok (n, (l, x))) → Answered total chain₀ chain' first marks' (Ok (used + n, tt))
      unfolding on-from
      is-done n l x p a₀ =
          let a = subst (λ y. Answered (turned u at (command_at s at) st) chain chain' (drop used marks) rest' (Ok (n, (l, y)))) p a₀ in
          let t = turned u at (command_at s at) st in
          let b = then_silent t.marks t.ending (on-from at) chain chain' (drop used marks) rest' n (l, done) (well tt) a refl in
          let front : length (take used marks) ≡ used = length-take-le used marks i.within in
          let gone : drop (length (take used marks)) first ≡ drop used marks = ap (λ k. drop k first) front ∙ sym i.past in
          let c = after (take used marks) (bind t (on-from at)) chain chain' first rest' (Ok (n, tt)) (omega (arith, front, i.within, i.long)) (subst (λ x. Answered (bind t (on-from at)) chain chain' x rest' (Ok (n, tt))) (sym gone) b) in
          let d = subst (λ x. Answered x chain chain' first (take used marks ++ rest') (Ok (length (take used marks) + n, tt))) (sym (i.splits ∙ ap (prepend (take used marks)) (run-turn at st h))) c in
          let e = subst (λ x. Answered total chain chain' first x (Ok (length (take used marks) + n, tt))) (sym m) d in
          from-chain chain' marks' (Ok (used + n, tt)) (subst (λ x. Answered total chain chain' first marks' (Ok (x + n, tt))) front e)

      pub goes_on : (n l : ℕ) (st' : State) (x : Next) → x ≡ go st' → 0 < l → at + l ≤ length s → Answered (turned u at (command_at s at) st) chain chain' (drop used marks) rest' (Ok (n, (l, x))) → Going total (run_from u s (at + l) st') chain₀ chain' first marks' (used + n)
      goes_on n l st' x p some le a₀ =
          let a = subst (λ y. Answered (turned u at (command_at s at) st) chain chain' (drop used marks) rest' (Ok (n, (l, y)))) p a₀ in
          let t = turned u at (command_at s at) st in
          let b = accepted t.marks t.ending chain chain' (drop used marks) rest' n (l, go st') a in
          let q : run_from u s at st ≡ prepend t.marks (run_from u s (at + l) st') =
          run-turn at st h ∙ ap (λ e. onward t.marks e (on-from at)) b.end ∙ ap (prepend t.marks) (run_on at l st' some le) in
          record {
            within = more_within total chain first marks used i.within i.long i.past t.marks rest' marks' n b.fits b.count b.now m;
            same = b.same ∙ i.same;
            long = more-long total chain first marks used i.within i.long i.past t.marks rest' marks' n b.fits b.count b.now m;
            past = more-drop total chain first marks used i.within i.long i.past t.marks rest' marks' n b.fits b.count b.now m;
            splits = more-total total chain first marks used i.within i.long i.past t.marks rest' marks' n b.fits b.count b.now m (run_from u s at st) (run_from u s (at + l) st') i.splits q;
          }
