-- Outcomes compose: calls one after another, each on the rest of the mark list. Assumes nothing.
use Rattle.std.proofs.Common.{◌≡◌, ℕ, suc, ◌+◌, ◌-◌, ◌<◌, ◌≤◌, Bool, true, false, cond, ltb, List, [], ◌∷◌, ◌++◌, length, take, drop, set, Ok, Err, Result, sym, refl, ap, ◌∙◌, subst, ⊎_elim, append_assoc, append-nil, arith, length-append, length-drop, take-append-drop}
use Rattle.std.proofs.lemmas.List.{length-take-le, drop-drop}
use Rattle.std.proofs.lemmas.Bool.{cases_lt}
use Rattle.shelf.specs.declared.marks.Mark.{Mark}
use Rattle.shelf.specs.declared.marks.Link.{Link}
use Rattle.shelf.specs.declared.refusals.Cause.{Cause}
use Rattle.shelf.specs.declared.refusals.Refusal.{Refusal}
use Rattle.shelf.specs.declared.refusals.Refusal.TheVariants.{Fault, MarksFull}
use Rattle.shelf.specs.Outcomes.{Outcome, Ending, well, fault, ends, prepend, onward, longer, link}
use Rattle.shelf.specs.Answers.{overlay, ended, chain_of, Answered, shift, link_count, link_written}
use Rattle.shelf.specs.Served.{answer-fits, answer-full, linked-fits, linked-full, made, silent}

pub overlay-append : {X : Type 0} (p q xs : List X) → length p ≤ length xs → overlay (p ++ q) xs ≡ p ++ overlay q (drop (length p) xs)
overlay-append [] q xs h = refl
overlay-append (x ∷ p) q [] h = let z : ⊥ = omega arith in absurd z
overlay-append (x ∷ p) q (y ∷ xs) h = ap (λ t. x ∷ t) (overlay-append p q xs (omega arith))

pub overlay-filled : {X : Type 0} (p q xs : List X) → length xs ≤ length p → overlay (p ++ q) xs ≡ overlay p xs
overlay-filled [] [] [] h = refl
overlay-filled [] (x ∷ q) [] h = refl
overlay-filled [] q (y ∷ xs) h = let z : ⊥ = omega arith in absurd z
overlay-filled (x ∷ p) q [] h = refl
overlay-filled (x ∷ p) q (y ∷ xs) h = ap (λ t. x ∷ t) (overlay-filled p q xs (omega arith))

pub take-overlay : {X : Type 0} (p xs : List X) → length p ≤ length xs → take (length p) (overlay p xs) ≡ p
take-overlay [] xs h = refl
take-overlay (x ∷ p) [] h = let z : ⊥ = omega arith in absurd z
take-overlay (x ∷ p) (y ∷ xs) h = ap (λ t. x ∷ t) (take-overlay p xs (omega arith))

pub drop-overlay : {X : Type 0} (p xs : List X) → length p ≤ length xs → drop (length p) (overlay p xs) ≡ drop (length p) xs
drop-overlay [] xs h = refl
drop-overlay (x ∷ p) [] h = let z : ⊥ = omega arith in absurd z
drop-overlay (x ∷ p) (y ∷ xs) h = drop-overlay p xs (omega arith)

pub length-overlay : {X : Type 0} (p xs : List X) → length (overlay p xs) ≡ length xs
length-overlay [] xs = refl
length-overlay (x ∷ p) [] = refl
length-overlay (x ∷ p) (y ∷ xs) = ap suc (length-overlay p xs)

-- one more, just past what was written
pub overlay-push : {X : Type 0} (p : List X) (y : X) (xs : List X) → overlay (p ++ (y ∷ [])) xs ≡ set (overlay p xs) (length p) y
overlay-push [] y [] = refl
overlay-push [] y (x ∷ xs) = refl
overlay-push (z ∷ p) y [] = refl
overlay-push (z ∷ p) y (x ∷ xs) = ap (λ t. z ∷ t) (overlay-push p y xs)

shift-ended : {W : Type 0} (n m : ℕ) (e : Ending W) → shift n (ended m e) ≡ ended (n + m) e
shift-ended n m (well w) = refl
shift-ended n m (fault k ch) = refl

-- marks that stand before a call's own
pub after : {W : Type 0} (p : List Mark) (o : Outcome W) (chain chain' : List Link) (marks rest : List Mark) (r : Result (ℕ × W) Refusal) → length p ≤ length marks → Answered o chain chain' (drop (length p) marks) rest r → Answered (prepend p o) chain chain' marks (p ++ rest) (shift (length p) r)
after p o chain chain' marks rest r h a = ⊎_elim full fits (cases_lt (length (drop (length p) marks)) (length o.marks))
  where
    d : length (drop (length p) marks) ≡ length marks - length p
    d = length-drop (length p) marks

    l : length (p ++ o.marks) ≡ length p + length o.marks
    l = length-append p o.marks

    m : p ++ rest ≡ overlay (p ++ o.marks) marks
    m = ap (λ t. p ++ t) a.marked ∙ sym (overlay-append p o.marks marks h)

    full : length (drop (length p) marks) < length o.marks → Answered (prepend p o) chain chain' marks (p ++ rest) (shift (length p) r)
    full g =
        let b : length marks < length (p ++ o.marks) = omega (arith, d, l) in
        record {
          answered = ap (shift (length p)) (a.answered ∙ answer-full o _ g) ∙ sym (answer-full (prepend p o) (length marks) b);
          marked = m;
          chained = a.chained ∙ linked-full o _ chain g ∙ sym (linked-full (prepend p o) (length marks) chain b);
        }

    fits : length o.marks ≤ length (drop (length p) marks) → Answered (prepend p o) chain chain' marks (p ++ rest) (shift (length p) r)
    fits g =
        let b : length (p ++ o.marks) ≤ length marks = omega (arith, d, l) in
        record {
          answered =
              ap (shift (length p)) (a.answered ∙ answer-fits o _ g)
              ∙ shift-ended (length p) (length o.marks) o.ending
              ∙ ap (λ n. ended n o.ending) (sym l)
              ∙ sym (answer-fits (prepend p o) (length marks) b);
          marked = m;
          chained = a.chained ∙ linked-fits o _ chain g ∙ sym (linked-fits (prepend p o) (length marks) chain b);
        }

-- what an accepted call tells
pub record Accepted {W : Type 0} (o : Outcome W) (chain chain' : List Link) (marks marks' : List Mark) (n : ℕ) (w : W) : Type 0 where
  pub fits : length o.marks ≤ length marks
  pub count : n ≡ length o.marks
  pub end : o.ending ≡ well w
  pub same : chain' ≡ chain
  pub now : marks' ≡ overlay o.marks marks

never : {X W : Type 0} (x : W) (y : Refusal) → ◌≡◌ {A = Result W Refusal} (Ok x) (Err y) → X
never x y e = let z : ◌≡◌ {A = ℕ} 0 1 = cc in let b : ⊥ = omega arith in absurd b

pub accepted : {W : Type 0} (ms : List Mark) (e : Ending W) (chain chain' : List Link) (marks marks' : List Mark) (n : ℕ) (w : W) → Answered (ends ms e) chain chain' marks marks' (Ok (n, w)) → Accepted (ends ms e) chain chain' marks marks' n w
accepted ms (well v) chain chain' marks marks' n w a = ⊎_elim (λ g. never _ _ (a.answered ∙ answer-full (ends ms (well v)) _ g)) fits' (cases_lt (length marks) (length ms))
  where
    fits' : length ms ≤ length marks → Accepted (ends ms (well v)) chain chain' marks marks' n w
    fits' g =
        let q : Ok (n, w) ≡ Ok (length ms, v) = a.answered ∙ answer-fits (ends ms (well v)) _ g in
        let p : ◌≡◌ {A = ℕ × _} (n, w) (length ms, v) = cc in
        record { fits = g; count = ap (λ t. t.0) p; end = ap (λ t. well t.1) (sym p); same = a.chained ∙ linked-fits (ends ms (well v)) _ chain g; now = a.marked }
accepted ms (fault k ch) chain chain' marks marks' n w a = ⊎_elim (λ g. never _ _ (a.answered ∙ answer-full (ends ms (fault k ch)) _ g)) (λ g. never _ _ (a.answered ∙ answer-fits (ends ms (fault k ch)) _ g)) (cases_lt (length marks) (length ms))

un_err : {W : Type 0} (x y : Refusal) → ◌≡◌ {A = Result W Refusal} (Err x) (Err y) → x ≡ y
un_err x y e = cc

-- a refused call ends what it stands in
pub refused : {A B : Type 0} (ms : List Mark) (e : Ending A) (f : A → Outcome B) (chain chain' : List Link) (marks marks' : List Mark) (x : Refusal) → Answered (ends ms e) chain chain' marks marks' (Err x) → Answered (onward ms e f) chain chain' marks marks' (Err x)
refused {A} {B} ms (well v) f chain chain' marks marks' x a = ⊎_elim full (λ g. never _ _ (sym (a.answered ∙ answer-fits (ends ms (well v)) _ g))) (cases_lt (length marks) (length ms))
  where
    full : length marks < length ms → Answered (prepend ms (f v)) chain chain' marks marks' (Err x)
    full g =
        let b : length marks < length (ms ++ (f v).marks) = omega (arith, length-append ms (f v).marks) in
        record {
          answered = ap Err (un_err x MarksFull (a.answered ∙ answer-full (ends ms (well v)) _ g)) ∙ sym (answer-full (prepend ms (f v)) (length marks) b);
          marked = a.marked ∙ sym (overlay-filled ms (f v).marks marks (omega arith));
          chained = a.chained ∙ linked-full (ends ms (well v)) _ chain g ∙ sym (linked-full (prepend ms (f v)) (length marks) chain b);
        }
refused {A} {B} ms (fault k ch) f chain chain' marks marks' x a = ⊎_elim full fits (cases_lt (length marks) (length ms))
  where
    full : length marks < length ms → Answered (ends {W = B} ms (fault k ch)) chain chain' marks marks' (Err x)
    full g =
        record {
          answered = ap Err (un_err x MarksFull (a.answered ∙ answer-full (ends ms (fault k ch)) _ g)) ∙ sym (answer-full (ends ms (fault k ch)) (length marks) g);
          marked = a.marked;
          chained = a.chained ∙ linked-full (ends ms (fault k ch)) _ chain g ∙ sym (linked-full (ends ms (fault k ch)) (length marks) chain g);
        }

    fits : length ms ≤ length marks → Answered (ends {W = B} ms (fault k ch)) chain chain' marks marks' (Err x)
    fits g =
        record {
          answered = ap Err (un_err x (Fault k (length ch)) (a.answered ∙ answer-fits (ends ms (fault k ch)) _ g)) ∙ sym (answer-fits (ends ms (fault k ch)) (length marks) g);
          marked = a.marked;
          chained = a.chained ∙ linked-fits (ends ms (fault k ch)) _ chain g ∙ sym (linked-fits (ends ms (fault k ch)) (length marks) chain g);
        }

-- a fault passed on with one link more
module _ {W : Type 0} (l : Link) (chain chain' : List Link) (marks marks' : List Mark) where
  pub link_faulted : (ms : List Mark) (e : Ending W) (k : Cause) (n : ℕ) → Answered (ends ms e) chain chain' marks marks' (Err (Fault k n)) → Answered (link l (ends ms e)) chain (link_written n l chain') marks marks' (Err (Fault k (link_count n)))
  link_faulted ms e k n a = ⊎_elim (λ g. unlike (answered-full g)) (λ g. by e (a.answered ∙ answer-fits (ends ms e) (length marks) g) (a.chained ∙ linked-fits (ends ms e) (length marks) chain g) g) (cases_lt (length marks) (length ms))
    where
      answered-full : length marks < length ms → ◌≡◌ {A = Result (ℕ × W) Refusal} (Err (Fault k n)) (Err MarksFull)
      answered-full g = a.answered ∙ answer-full (ends ms e) (length marks) g

      unlike : {X : Type 0} → ◌≡◌ {A = Result (ℕ × W) Refusal} (Err (Fault k n)) (Err MarksFull) → X
      unlike q = let z : ◌≡◌ {A = ℕ} 0 1 = cc in absurd (omega arith)

      by : (f : Ending W) → Err (Fault k n) ≡ ended (length ms) f → chain' ≡ overlay (chain_of f) chain → length ms ≤ length marks → Answered (link l (ends ms f)) chain (link_written n l chain') marks marks' (Err (Fault k (link_count n)))
      by (well w) q c g = never _ _ (sym q)
      by (fault k' ch) q c g =
          let kk : k ≡ k' = cc in
          let nn : n ≡ length ch = cc in
          record {
            answered = ap Err (ap (λ x. Fault x (link_count n)) kk ∙ ap (Fault k') (ap link_count nn ∙ sym (count ch))) ∙ sym (answer-fits (ends ms (fault k' (longer ch l))) (length marks) g);
            marked = a.marked;
            chained = ap (λ x. link_written x l chain') nn ∙ ap (link_written (length ch) l) c ∙ put ch ∙ sym (linked-fits {W = W} (ends ms (fault k' (longer ch l))) (length marks) chain g);
          }
        where
          counted : (ch : List Link) (b : Bool) → length (cond b (ch ++ (l ∷ [])) ch) ≡ cond b (length ch + 1) (length ch)
          counted ch true = length-append ch (l ∷ [])
          counted ch false = refl

          count : (ch : List Link) → length (longer ch l) ≡ link_count (length ch)
          count ch = counted ch (ltb (length ch) 65535)

          placed : (ch : List Link) (b : Bool) → cond b (set (overlay ch chain) (length ch) l) (overlay ch chain) ≡ overlay (cond b (ch ++ (l ∷ [])) ch) chain
          placed ch true = sym (overlay-push ch l chain)
          placed ch false = refl

          put : (ch : List Link) → link_written (length ch) l (overlay ch chain) ≡ overlay (longer ch l) chain
          put ch = placed ch (ltb (length ch) 65535)

  -- a full list stays the answer
  pub link-full : (ms : List Mark) (e : Ending W) → Answered (ends ms e) chain chain' marks marks' (Err MarksFull) → Answered (link l (ends ms e)) chain chain' marks marks' (Err MarksFull)
  link-full ms e a = ⊎_elim full fits (cases_lt (length marks) (length ms))
    where
      full : length marks < length ms → Answered (link l (ends ms e)) chain chain' marks marks' (Err MarksFull)
      full g = record { answered = sym (answer-full (link l (ends ms e)) (length marks) g); marked = a.marked; chained = a.chained ∙ linked-full (ends ms e) (length marks) chain g ∙ sym (linked-full (link l (ends ms e)) (length marks) chain g) }

      no : (f : Ending W) → Err MarksFull ≡ ended (length ms) f → Answered (link l (ends ms e)) chain chain' marks marks' (Err MarksFull)
      no (well w) q = never _ _ (sym q)
      no (fault k ch) q = let z : ◌≡◌ {A = ℕ} 0 1 = cc in absurd (omega arith)

      fits : length ms ≤ length marks → Answered (link l (ends ms e)) chain chain' marks marks' (Err MarksFull)
      fits g = no e (a.answered ∙ answer-fits (ends ms e) (length marks) g)

-- an accepted call, and then what makes no mark
pub then_silent : {A B : Type 0} (ms : List Mark) (e : Ending A) (f : A → Outcome B) (chain chain' : List Link) (marks marks' : List Mark) (n : ℕ) (w : A) (e' : Ending B) → Answered (ends ms e) chain chain' marks marks' (Ok (n, w)) → f w ≡ ends [] e' → Answered (onward ms e f) chain (overlay (chain_of e') chain') marks marks' (ended n e')
then_silent {A} {B} ms e f chain chain' marks marks' n w e' a q =
    let t = accepted ms e chain chain' marks marks' n w a in
    let o : onward ms e f ≡ ends ms e' = ap (λ x. onward ms x f) t.end ∙ ap (prepend ms) q ∙ ap (λ x. ends x e') (append-nil ms) in
    let p : Answered (ends ms e') chain (overlay (chain_of e') chain) marks (overlay ms marks) (ended (length ms) e') = made ms e' chain marks t.fits in
    let p₁ = subst (λ x. Answered (ends ms e') chain (overlay (chain_of e') x) marks (overlay ms marks) (ended (length ms) e')) (sym t.same) p in
    let p₂ = subst (λ x. Answered (ends ms e') chain (overlay (chain_of e') chain') marks x (ended (length ms) e')) (sym t.now) p₁ in
    let p₃ = subst (λ x. Answered (ends ms e') chain (overlay (chain_of e') chain') marks marks' (ended x e')) (sym t.count) p₂ in
    subst (λ x. Answered x chain (overlay (chain_of e') chain') marks marks' (ended n e')) (sym o) p₃

take-add : {X : Type 0} (p q : List X) (a n : ℕ) → length p ≡ a → take (a + n) (p ++ q) ≡ p ++ take n q
take-add [] q a n h = ap (λ k. take k q) (omega arith)
take-add (x ∷ p) q a n h =
    let e : a + n ≡ suc (length p + n) = omega arith in
    rw e (ap (λ t. x ∷ t) (take-add p q (length p) n refl))

drop-add : {X : Type 0} (p q : List X) (a n : ℕ) → length p ≡ a → drop (a + n) (p ++ q) ≡ drop n q
drop-add [] q a n h = ap (λ k. drop k q) (omega arith)
drop-add (x ∷ p) q a n h =
    let e : a + n ≡ suc (length p + n) = omega arith in
    rw e (drop-add p q (length p) n refl)

-- A loop over calls: `used` marks stand in front of `marks`, and past them it is as it was at first.
module _ {W : Type 0} (total : Outcome W) (chain : List Link) (first marks : List Mark) (used : ℕ) (within : used ≤ length marks) (long : length marks ≡ length first) (rest : drop used marks ≡ drop used first) where
  front : length (take used marks) ≡ used
  front = length-take-le used marks within

  past : drop (length (take used marks)) first ≡ drop used marks
  past = ap (λ n. drop n first) front ∙ sym rest

  pub failed : (o : Outcome W) (chain' : List Link) (rest' marks' : List Mark) (x : Refusal) → total ≡ prepend (take used marks) o → Answered o chain chain' (drop used marks) rest' (Err x) → marks' ≡ take used marks ++ rest' → Answered total chain chain' first marks' (Err x)
  failed o chain' rest' marks' x e a m =
      let b = subst (λ t. Answered o chain chain' t rest' (Err x)) (sym past) a in
      let c = after (take used marks) o chain chain' first rest' (Err x) (omega (arith, front)) b in
      let d = subst (λ t. Answered t chain chain' first (take used marks ++ rest') (Err x)) (sym e) c in
      subst (λ t. Answered total chain chain' first t (Err x)) (sym m) d

  pub done : (e : Ending W) → total ≡ prepend (take used marks) (ends [] e) → Answered total chain (overlay (chain_of e) chain) first marks (ended used e)
  done e q =
      let s = silent e chain (drop (length (take used marks)) first) in
      let c = after (take used marks) (ends [] e) chain (overlay (chain_of e) chain) first (drop (length (take used marks)) first) (ended 0 e) (omega (arith, front)) s in
      let d = subst (λ t. Answered t chain (overlay (chain_of e) chain) first (take used marks ++ drop (length (take used marks)) first) (shift (length (take used marks)) (ended 0 e))) (sym q) c in
      let m : take used marks ++ drop (length (take used marks)) first ≡ marks = ap (λ t. take used marks ++ t) past ∙ take-append-drop used marks in
      let f = subst (λ t. Answered total chain (overlay (chain_of e) chain) first t (shift (length (take used marks)) (ended 0 e))) m d in
      let n : length (take used marks) + 0 ≡ used = omega (arith, front) in
      let r : shift (length (take used marks)) (ended 0 e) ≡ ended used e = shift-ended (length (take used marks)) 0 e ∙ ap (λ t. ended t e) n in
      subst (λ t. Answered total chain (overlay (chain_of e) chain) first marks t) r f

  module _ (ms rest' marks' : List Mark) (n : ℕ) (fits : length ms ≤ length (drop used marks)) (count : n ≡ length ms) (wrote : rest' ≡ overlay ms (drop used marks)) (now : marks' ≡ take used marks ++ rest') where
    pub more_within : used + n ≤ length marks'
    more_within =
        let a = ap length now ∙ length-append (take used marks) rest' in
        let b = ap length wrote ∙ length-overlay ms (drop used marks) in
        omega (arith, front, a, b)

    pub more-long : length marks' ≡ length first
    more-long =
        let a = ap length now ∙ length-append (take used marks) rest' in
        let b = ap length wrote ∙ length-overlay ms (drop used marks) in
        let c = length-drop used marks in
        omega (arith, front, a, b, c)

    pub more-take : take (used + n) marks' ≡ take used marks ++ ms
    more-take =
        ap (take (used + n)) now
        ∙ take-add (take used marks) rest' used n front
        ∙ ap (λ t. take used marks ++ t) (ap (take n) wrote ∙ ap (λ k. take k (overlay ms (drop used marks))) count ∙ take-overlay ms (drop used marks) fits)

    pub more-drop : drop (used + n) marks' ≡ drop (used + n) first
    more-drop =
        ap (drop (used + n)) now
        ∙ drop-add (take used marks) rest' used n front
        ∙ ap (drop n) wrote
        ∙ ap (λ k. drop k (overlay ms (drop used marks))) count
        ∙ drop-overlay ms (drop used marks) fits
        ∙ ap (λ k. drop k (drop used marks)) (sym count)
        ∙ ap (drop n) rest
        ∙ drop-drop n used first

    pub more-total : (o o' : Outcome W) → total ≡ prepend (take used marks) o → o ≡ prepend ms o' → total ≡ prepend (take (used + n) marks') o'
    more-total o o' e f =
        e ∙ ap (prepend (take used marks)) f
        ∙ ap (λ t. ends t o'.ending) (sym (append_assoc (take used marks) ms o'.marks))
        ∙ ap (λ t. prepend t o') (sym more-take)

-- a refusal that a level passes on, with its link where it is a fault
pub passed_on : {W : Type 0} (l : Link) (o : Outcome W) (chain chain' chain'' : List Link) (marks marks' : List Mark) (e r : Refusal) → Answered o chain chain' marks marks' (Err e) → ((k : Cause) (n : ℕ) → e ≡ Fault k n → (r ≡ Fault k (link_count n)) × (chain'' ≡ link_written n l chain')) → (e ≡ MarksFull → (r ≡ MarksFull) × (chain'' ≡ chain')) → Answered (link l o) chain chain'' marks marks' (Err r)
passed_on {W} l o chain chain' chain'' marks marks' e r a f m = ⊎_elim full (λ g. fits o.ending refl g) (cases_lt (length marks) (length o.marks))
  where
    renamed : (r' : Refusal) (c : List Link) → r ≡ r' → chain'' ≡ c → Answered (link l o) chain c marks marks' (Err r') → Answered (link l o) chain chain'' marks marks' (Err r)
    renamed r' c p q x = subst (λ t. Answered (link l o) chain chain'' marks marks' (Err t)) (sym p) (subst (λ t. Answered (link l o) chain t marks marks' (Err r')) (sym q) x)

    full : length marks < length o.marks → Answered (link l o) chain chain'' marks marks' (Err r)
    full g =
        let q : e ≡ MarksFull = un_err {W = ℕ × W} e MarksFull (a.answered ∙ answer-full o (length marks) g) in
        let p = m q in
        renamed MarksFull chain' p.0 p.1 (link-full l chain chain' marks marks' o.marks o.ending (subst (λ t. Answered o chain chain' marks marks' (Err t)) q a))

    fits : (x : Ending W) → o.ending ≡ x → length o.marks ≤ length marks → Answered (link l o) chain chain'' marks marks' (Err r)
    fits (well w) x g = never {X = Answered (link l o) chain chain'' marks marks' (Err r)} (length o.marks, w) e (sym (a.answered ∙ answer-fits o (length marks) g ∙ ap (ended (length o.marks)) x))
    fits (fault k ch) x g =
        let q : e ≡ Fault k (length ch) = un_err {W = ℕ × W} e (Fault k (length ch)) (a.answered ∙ answer-fits o (length marks) g ∙ ap (ended (length o.marks)) x) in
        let p = f k (length ch) q in
        renamed (Fault k (link_count (length ch))) (link_written (length ch) l chain') p.0 p.1 (link_faulted l chain chain' marks marks' o.marks o.ending k (length ch) (subst (λ t. Answered o chain chain' marks marks' (Err t)) q a))
