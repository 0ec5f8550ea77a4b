-- Whatever is run over a lawful shelf makes good marks, and its faults have good chains. Assumes nothing.
use Rattle.std.proofs.Common.{◌≡◌, ℕ, zero, suc, ◌-◌, ◌^◌, ◌<◌, ◌≤◌, Bool, true, false, cond, ◌&&◌, eqb, ltb, List, [], ◌∷◌, ◌++◌, length, ℤ, pos, negsuc, Some, None, Ok, Err, Option, Result, sym, refl, subst, arith, length-append}
use Rattle.std.specs.List.{AllByRecursion}
use Rattle.std.proofs.ByRecursion.{All-append, All-push, All-weaker}
use Rattle.std.proofs.lemmas.Bool.{ltb-true, and_parts}
use Rattle.numbers.specs.Lengths.{in_range, moved_to}
use Rattle.shelf.specs.declared.marks.Link.{Link}
use Rattle.shelf.specs.declared.refusals.Cause.{Cause}
use Rattle.shelf.specs.declared.refusals.Cause.TheVariants.{NotAllowed, NoFont, NoCode, PastEnd, Frames, OutOfRange, BadSize}
use Rattle.shelf.specs.Answers.{chain_of}
use Rattle.shelf.specs.Laws.{GoodMark, GoodEnding, Lawful}
use Rattle.shelf.specs.Meaning.{FaceMeaning, called, started, point_at}
use Rattle.shelf.specs.Outcomes.{Outcome, Ending, well, fault, ends, faulty, bind, onward, link, link_ending, longer}
use Rattle.shelf.specs.Served.{called-fault, called_runs}
use Rattle.shelf.specs.Starting.{passed}
use Rattle.commands.specs.Commands.{Cmd, set, put, set_rule, put_rule, nop, eop, push, pop, right, w0, w1, x0, x1, down, y0, y1, z0, z1, fnt, xxx, fnt_def, undefined, command_at}
use Rattle.machine.specs.declared.registers.Chosen.{Chosen}
use Rattle.machine.specs.declared.registers.Registers.{Registers}
use Rattle.machine.specs.declared.registers.Spacing.{Spacing}
use Rattle.machine.specs.declared.registers.Spacing.TheVariants.{W, X, Y, Z}
use Rattle.machine.specs.Frames.{pushed, popped}
use Rattle.machine.specs.Steps.{World, State, Next, go, done, with_h, with_v, arrived, across, downward, spaced, with_spacing, measured, shifted, moved, advanced, kept, byte_of, coded, typeset, side, sides, drawn, ruled, with_frames, restored, selected, at_end, silently, exec}
use Rattle.machine.specs.Runs.{turned, finished, continued, run}

-- a value, or a short chain of links below a number of fonts
abbrev GoodChain : ℕ → List Link → Type 0
GoodChain fonts ch = (length ch ≤ 65535) × AllByRecursion (λ l. l.font < fonts) ch

pub record Good (W : Type 0) (fs : List FaceMeaning) (fonts : ℕ) (o : Outcome W) : Type 0 where
  pub marks : AllByRecursion (GoodMark fs) o.marks
  pub chain : GoodChain fonts (chain_of o.ending)

-- endings without a chain
chainless_cond : {V : Type 0} (b : Bool) (x y : Ending V) → chain_of x ≡ [] → chain_of y ≡ [] → chain_of (cond b x y) ≡ []
chainless_cond true x y p q = p
chainless_cond false x y p q = q

arrived-chain : (to : ℤ → Registers) (o : Option ℤ) → chain_of (arrived to o) ≡ []
arrived-chain to (Some a) = refl
arrived-chain to None = refl

across-chain : (r : Registers) (l : ℤ) → chain_of (across r l) ≡ []
across-chain r l = arrived-chain (with_h r) (moved_to r.h l)

downward-chain : (r : Registers) (l : ℤ) → chain_of (downward r l) ≡ []
downward-chain r l = arrived-chain (with_v r) (moved_to r.v l)

spaced-chain : (s : Spacing) (r : Registers) → chain_of (spaced s r) ≡ []
spaced-chain W r = across-chain r r.w
spaced-chain X r = across-chain r r.x
spaced-chain Y r = downward-chain r r.y
spaced-chain Z r = downward-chain r r.z

measured-chain : (o : Option ℤ) (f : ℤ → Ending Registers) → ((l : ℤ) → chain_of (f l) ≡ []) → chain_of (measured o f) ≡ []
measured-chain (Some l) f p = p l
measured-chain None f p = refl

spaced-by : (s : Spacing) (o : Option ℤ) (r : Registers) → chain_of (measured o (λ l. spaced s (with_spacing s r l))) ≡ []
spaced-by s o r = measured-chain o (λ l. spaced s (with_spacing s r l)) (λ l. spaced-chain s (with_spacing s r l))

shifted-chain : (m : ℤ → Option ℤ) (k : Cmd) (r : Registers) → chain_of (shifted m k r) ≡ []
shifted-chain m (right b) r = measured-chain (m b) (across r) (across-chain r)
shifted-chain m w0 r = spaced-chain W r
shifted-chain m (w1 b) r = spaced-by W (m b) r
shifted-chain m x0 r = spaced-chain X r
shifted-chain m (x1 b) r = spaced-by X (m b) r
shifted-chain m (down b) r = measured-chain (m b) (downward r) (downward-chain r)
shifted-chain m y0 r = spaced-chain Y r
shifted-chain m (y1 b) r = spaced-by Y (m b) r
shifted-chain m z0 r = spaced-chain Z r
shifted-chain m (z1 b) r = spaced-by Z (m b) r
shifted-chain m (set c) r = refl
shifted-chain m (put c) r = refl
shifted-chain m (set_rule a b) r = refl
shifted-chain m (put_rule a b) r = refl
shifted-chain m nop r = refl
shifted-chain m eop r = refl
shifted-chain m push r = refl
shifted-chain m pop r = refl
shifted-chain m (fnt n) r = refl
shifted-chain m xxx r = refl
shifted-chain m (fnt_def d) r = refl
shifted-chain m undefined r = refl

moved-chain : (st : State) (e : Ending Registers) → chain_of e ≡ [] → chain_of (moved st e) ≡ []
moved-chain st (well r) p = refl
moved-chain st (fault k ch) p = p

frames-chain : (st : State) (q : Bool × List Registers) → chain_of (with_frames st q) ≡ []
frames-chain st (true, fs) = refl
frames-chain st (false, fs) = refl

restored-chain : (st : State) (q : Option Registers × List Registers) → chain_of (restored st q) ≡ []
restored-chain st (Some r, fs) = refl
restored-chain st (None, fs) = refl

selected-chain : (st : State) (r : Result Chosen Cause) → chain_of (selected st r) ≡ []
selected-chain st (Ok f) = refl
selected-chain st (Err k) = refl

end-chain : {V : Type 0} (st : State) (e : V) → chain_of (at_end st e) ≡ []
end-chain st e = chainless_cond (eqb (length st.frames) 0) (well e) (fault Frames []) refl refl

move_chain : (u : World) (k : Cmd) (st : State) → chain_of (moved st (shifted u.measure k st.at)) ≡ []
move_chain u k st = moved-chain st (shifted u.measure k st.at) (shifted-chain u.measure k st.at)

silent-chain : (u : World) (k : Cmd) (st : State) → chain_of (silently u k st) ≡ []
silent-chain u nop st = refl
silent-chain u eop st = chainless_cond u.page (at_end st done) (fault NotAllowed []) (end-chain st done) refl
silent-chain u push st = frames-chain st (pushed st.at st.frames)
silent-chain u pop st = restored-chain st (popped st.frames)
silent-chain u (right b) st = move_chain u (right b) st
silent-chain u w0 st = move_chain u w0 st
silent-chain u (w1 b) st = move_chain u (w1 b) st
silent-chain u x0 st = move_chain u x0 st
silent-chain u (x1 b) st = move_chain u (x1 b) st
silent-chain u (down b) st = move_chain u (down b) st
silent-chain u y0 st = move_chain u y0 st
silent-chain u (y1 b) st = move_chain u (y1 b) st
silent-chain u z0 st = move_chain u z0 st
silent-chain u (z1 b) st = move_chain u (z1 b) st
silent-chain u (fnt n) st = selected-chain st (u.choose n)
silent-chain u xxx st = refl
silent-chain u (fnt_def d) st = chainless_cond u.page (well (go st)) (fault NotAllowed []) refl refl
silent-chain u undefined st = refl
silent-chain u (set c) st = refl
silent-chain u (put c) st = refl
silent-chain u (set_rule a b) st = refl
silent-chain u (put_rule a b) st = refl

finished-chain : (u : World) (st : State) → chain_of (finished u st) ≡ []
finished-chain u st = chainless_cond u.page (fault PastEnd []) (at_end st tt) refl (end-chain st tt)

module _ (fs : List FaceMeaning) (fonts : ℕ) where
  good_quiet : {V : Type 0} (e : Ending V) → chain_of e ≡ [] → Good V fs fonts (ends [] e)
  good_quiet e p = record { marks = tt; chain = subst (GoodChain fonts) (sym p) (omega arith, tt) }

  pub good-faulty : {V : Type 0} (k : Cause) → Good V fs fonts (faulty k)
  good-faulty k = good_quiet (fault k []) refl

  pub good-bind : {A B : Type 0} (o : Outcome A) (f : A → Outcome B) → Good A fs fonts o → ((a : A) → Good B fs fonts (f a)) → Good B fs fonts (bind o f)
  good-bind {A} {B} o f g h = by o.ending refl
    where
      by : (e : Ending A) → o.ending ≡ e → Good B fs fonts (onward o.marks e f)
      by (well a) p = record { marks = All-append (GoodMark fs) o.marks (f a).marks g.marks (h a).marks; chain = (h a).chain }
      by (fault k ch) p = record { marks = g.marks; chain = subst (λ x. GoodChain fonts (chain_of x)) p g.chain }

  good-longer : (l : Link) → l.font < fonts → (ch : List Link) → GoodChain fonts ch → GoodChain fonts (longer ch l)
  good-longer l h ch g = by (ltb (length ch) 65535) refl
    where
      by : (b : Bool) → ltb (length ch) 65535 ≡ b → GoodChain fonts (cond b (ch ++ (l ∷ [])) ch)
      by true p = (omega (arith, ltb-true (length ch) 65535 p, length-append ch (l ∷ [])), All-push (λ x. x.font < fonts) ch l g.1 h)
      by false p = g

  pub good-link : {V : Type 0} (l : Link) (o : Outcome V) → l.font < fonts → Good V fs fonts o → Good V fs fonts (link l o)
  good-link {V} l o h g = record { marks = g.marks; chain = by o.ending g.chain }
    where
      by : (e : Ending V) → GoodChain fonts (chain_of e) → GoodChain fonts (chain_of (link_ending l e))
      by (well v) p = p
      by (fault k ch) p = good-longer l h ch p

  -- a rule from a point in range, with sides that are positive and below 2^31
  good_rule : (a b : ℤ) (r : Registers) (l : ℤ) → Good ℤ fs fonts (drawn (point_at r.h r.v) (sides (side a) (side b)) l)
  good_rule a b r l = by-point (in_range r.h && in_range r.v) refl
    where
      sided : (z : ℤ) (n : ℕ) → side z ≡ Some n → (0 < n) × (n < 2 ^ 31)
      sided (pos m) n e = by (ltb 0 m && ltb m 2147483648) refl e
        where
          by : (t : Bool) → (ltb 0 m && ltb m 2147483648) ≡ t → cond t (Some m) None ≡ Some n → (0 < n) × (n < 2 ^ 31)
          by true p q =
              let both = and_parts (ltb 0 m) (ltb m 2147483648) p in
              let same : m ≡ n = cc in
              (omega (arith, ltb-true 0 m both.0), omega (arith, ltb-true m 2147483648 both.1))
          by false p q = absurd (let z : ◌≡◌ {A = ℕ} 0 1 = cc in omega arith)
      sided (negsuc m) n e = absurd (let z : ◌≡◌ {A = ℕ} 0 1 = cc in omega arith)

      by-sides : in_range r.h ≡ true → in_range r.v ≡ true → (x y : Option ℕ) → side a ≡ x → side b ≡ y → Good ℤ fs fonts (drawn (Some (r.h, r.v)) (sides x y) l)
      by-sides p q (Some n) (Some m) e f =
          let na = sided a n e in
          let nb = sided b m f in
          record { marks = ((p, q, (na.0, na.1, nb.0, nb.1)), tt); chain = (omega arith, tt) }
      by-sides p q (Some n) None e f = record { marks = tt; chain = (omega arith, tt) }
      by-sides p q None y e f = record { marks = tt; chain = (omega arith, tt) }

      by-point : (t : Bool) → (in_range r.h && in_range r.v) ≡ t → Good ℤ fs fonts (drawn (cond t (Some (r.h, r.v)) None) (sides (side a) (side b)) l)
      by-point true p = let both = and_parts (in_range r.h) (in_range r.v) p in by-sides both.0 both.1 (side a) (side b) refl refl
      by-point false p = good-faulty OutOfRange

  good-ruled : (x y : Option ℤ) (r : Registers) → Good ℤ fs fonts (ruled x y r)
  good-ruled (Some a) (Some b) r = good_rule a b r b
  good-ruled (Some a) None r = good-faulty BadSize
  good-ruled None y r = good-faulty BadSize

module _ (u : World) (fonts : ℕ) (law : Lawful u.below) (few : length u.below.names ≤ fonts) (own : (at : ℕ) → (u.link_at at).font < fonts) where
  pub good-called : (font size code : ℕ) (h v : ℤ) → Good ℤ u.below.faces fonts (called u.below font size code h v)
  good-called font size code h v = by (started (length u.below.names) font size h v) refl
    where
      by : (r : Result (ℤ × ℤ) Cause) → started (length u.below.names) font size h v ≡ r → Good ℤ u.below.faces fonts (called u.below font size code h v)
      by (Err k) e = subst (Good ℤ u.below.faces fonts) (sym (called-fault u.below font size code h v k e)) (good-faulty u.below.faces fonts k)
      by (Ok p) e =
          let t = passed (length u.below.names) font size h v p e in
          let g = law.good_outcomes font size code h v t.within t.sized t.across t.down in
          subst (Good ℤ u.below.faces fonts) (sym (called_runs u.below font size code h v p e))
          (record { marks = g.good-marks; chain = ending (u.below.outcome font size code h v).ending g.good-ending })
        where
          ending : (x : Ending ℤ) → GoodEnding (length u.below.names) x → GoodChain fonts (chain_of x)
          ending (well w) q = (omega arith, tt)
          ending (fault k ch) q = (q.0, All-weaker (λ l. l.font < length u.below.names) (λ l. l.font < fonts) (λ l i. omega arith) ch q.1)

  good-typeset : (f : Option Chosen) (c : ℤ) (r : Registers) → Good ℤ u.below.faces fonts (typeset u.below f c r)
  good-typeset None c r = good-faulty u.below.faces fonts NoFont
  good-typeset (Some f) c r = by (byte_of c)
    where
      by : (o : Option ℕ) → Good ℤ u.below.faces fonts (coded u.below f r o)
      by (Some n) = good-called f.font f.size n r.h r.v
      by None = good-faulty u.below.faces fonts NoCode

  good-silent : {V : Type 0} (e : Ending V) → chain_of e ≡ [] → Good V u.below.faces fonts (ends [] e)
  good-silent e p = good_quiet u.below.faces fonts e p

  good-advanced : (st : State) (l : ℤ) → Good Next u.below.faces fonts (advanced st l)
  good-advanced st l = good-silent (moved st (across st.at l)) (moved-chain st (across st.at l) (across-chain st.at l))

  good-kept : (st : State) (l : ℤ) → Good Next u.below.faces fonts (kept st l)
  good-kept st l = good-silent (well (go st)) refl

  good-exec : (k : Cmd) (st : State) → Good Next u.below.faces fonts (exec u k st)
  unfolding exec
  good-exec (set c) st = good-bind u.below.faces fonts (typeset u.below st.font c st.at) (advanced st) (good-typeset st.font c st.at) (good-advanced st)
  good-exec (put c) st = good-bind u.below.faces fonts (typeset u.below st.font c st.at) (kept st) (good-typeset st.font c st.at) (good-kept st)
  good-exec (set_rule a b) st = good-bind u.below.faces fonts (ruled (u.measure a) (u.measure b) st.at) (advanced st) (good-ruled u.below.faces fonts (u.measure a) (u.measure b) st.at) (good-advanced st)
  good-exec (put_rule a b) st = good-bind u.below.faces fonts (ruled (u.measure a) (u.measure b) st.at) (kept st) (good-ruled u.below.faces fonts (u.measure a) (u.measure b) st.at) (good-kept st)
  good-exec nop st = good-silent (silently u nop st) (silent-chain u nop st)
  good-exec eop st = good-silent (silently u eop st) (silent-chain u eop st)
  good-exec push st = good-silent (silently u push st) (silent-chain u push st)
  good-exec pop st = good-silent (silently u pop st) (silent-chain u pop st)
  good-exec (right b) st = good-silent (silently u (right b) st) (silent-chain u (right b) st)
  good-exec w0 st = good-silent (silently u w0 st) (silent-chain u w0 st)
  good-exec (w1 b) st = good-silent (silently u (w1 b) st) (silent-chain u (w1 b) st)
  good-exec x0 st = good-silent (silently u x0 st) (silent-chain u x0 st)
  good-exec (x1 b) st = good-silent (silently u (x1 b) st) (silent-chain u (x1 b) st)
  good-exec (down b) st = good-silent (silently u (down b) st) (silent-chain u (down b) st)
  good-exec y0 st = good-silent (silently u y0 st) (silent-chain u y0 st)
  good-exec (y1 b) st = good-silent (silently u (y1 b) st) (silent-chain u (y1 b) st)
  good-exec z0 st = good-silent (silently u z0 st) (silent-chain u z0 st)
  good-exec (z1 b) st = good-silent (silently u (z1 b) st) (silent-chain u (z1 b) st)
  good-exec (fnt n) st = good-silent (silently u (fnt n) st) (silent-chain u (fnt n) st)
  good-exec xxx st = good-silent (silently u xxx st) (silent-chain u xxx st)
  good-exec (fnt_def d) st = good-silent (silently u (fnt_def d) st) (silent-chain u (fnt_def d) st)
  good-exec undefined st = good-silent (silently u undefined st) (silent-chain u undefined st)

  good-turned : (at : ℕ) (o : Option (Cmd × ℕ)) (st : State) → Good (ℕ × Next) u.below.faces fonts (turned u at o st)
  unfolding turned
  good-turned at None st = good-link u.below.faces fonts (u.link_at at) (faulty PastEnd) (own at) (good-faulty u.below.faces fonts PastEnd)
  good-turned at (Some p) st =
      good-link u.below.faces fonts (u.link_at at) (bind (exec u p.0 st) (λ n. ends [] (well (p.1, n)))) (own at)
      (good-bind u.below.faces fonts (exec u p.0 st) (λ n. ends [] (well (p.1, n))) (good-exec p.0 st) (λ n. good-silent (well (p.1, n)) refl))

  pub good-run : (s : List ℕ) (skip at left : ℕ) (st : State) → Good (Unit {0}) u.below.faces fonts (run u s skip at left st)
  unfolding run
  good-run s skip at zero st = good-link u.below.faces fonts (u.link_at at) (ends [] (finished u st)) (own at) (good-silent (finished u st) (finished-chain u st))
  good-run s (suc k) at (suc n) st = good-run s k (suc at) n st
  good-run s zero at (suc n) st =
      good-bind u.below.faces fonts (turned u at (command_at s at) st) (λ q. continued q.1 (λ st'. run u s (q.0 - 1) (suc at) n st')) (good-turned at (command_at s at) st)
      (λ q. on q.1 (λ st'. run u s (q.0 - 1) (suc at) n st') (λ st'. good-run s (q.0 - 1) (suc at) n st'))
    where
      on : (x : Next) (f : State → Outcome (Unit {0})) → ((st' : State) → Good (Unit {0}) u.below.faces fonts (f st')) → Good (Unit {0}) u.below.faces fonts (continued x f)
      on (go st') f g = g st'
      on done f g = good-silent (well tt) refl
