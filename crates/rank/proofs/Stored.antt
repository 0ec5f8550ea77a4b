-- One file more at the end of the bytes. Assumes nothing.
use Rattle.std.proofs.Common.{◌≡◌, ℕ, ◌+◌, ◌≤◌, true, leb, List, [], ◌∷◌, ◌++◌, length, take, drop, refl, ◌∙◌, arith}
use Rattle.std.proofs.lemmas.Bool.{leb-true, le-leb, and_parts}
use Rattle.std.proofs.lemmas.List.{length-drop, length-take-le, drop-append-le, take-append-le, drop_at, take_all, length-append, map_push}
use Rattle.vf.specs.Fonts.{font_of}
use Rattle.rank.specs.declared.fonts.Font.{Font}
use Rattle.rank.specs.Laid.{total, inside, font_name}
use Rattle.rank.specs.Entries.{entry_of, entries_of, in_all}

module _ (bs : List ℕ) where
  -- the bytes in all are those of the files
  pub all_bytes : (fs : List Font) → inside (length bs) fs ≡ true → in_all (entries_of bs fs) ≡ total fs
  all_bytes [] e = refl
  all_bytes (f ∷ fs) e =
      let p = and_parts (leb (f.start + f.length) (length bs)) (inside (length bs) fs) e in
      let le : f.start + f.length ≤ length bs = leb-true _ _ p.0 in
      let d = length-drop f.start bs in
      let t : length (take f.length (drop f.start bs)) ≡ f.length = length-take-le f.length (drop f.start bs) (omega (arith, d)) in
      rw (t, all_bytes fs p.1)

  -- bytes that follow change no file
  bytes_more : (more : List ℕ) (fs : List Font) → inside (length bs) fs ≡ true → entries_of (bs ++ more) fs ≡ entries_of bs fs
  bytes_more more [] e = refl
  bytes_more more (f ∷ fs) e =
      let p = and_parts (leb (f.start + f.length) (length bs)) (inside (length bs) fs) e in
      let le : f.start + f.length ≤ length bs = leb-true _ _ p.0 in
      let l = length-drop f.start bs in
      let d : drop f.start (bs ++ more) ≡ drop f.start bs ++ more = drop-append-le f.start bs more (omega arith) in
      let t : take f.length (drop f.start bs ++ more) ≡ take f.length (drop f.start bs) = take-append-le f.length (drop f.start bs) more (omega (arith, l)) in
      rw (d, t, bytes_more more fs p.1)

total-push : (fs : List Font) (f : Font) → total (fs ++ f ∷ []) ≡ total fs + f.length
total-push [] f = omega arith
total-push (g ∷ fs) f = rw (total-push fs f) (omega arith)

inside-push : (n m : ℕ) (fs : List Font) (f : Font) → inside n fs ≡ true → n ≤ m → f.start + f.length ≤ m → inside m (fs ++ f ∷ []) ≡ true
inside-push n m [] f e le fit = rw (le-leb _ _ fit)
inside-push n m (g ∷ fs) f e le fit =
    let p = and_parts (leb (g.start + g.length) n) (inside n fs) e in
    let a : g.start + g.length ≤ n = leb-true _ _ p.0 in
    let b : g.start + g.length ≤ m = omega arith in
    rw (le-leb _ _ b, inside-push n m fs f p.1 le fit)

module _ (bs : List ℕ) (fs : List Font) (f : Font) (file bs' : List ℕ) (fs' : List Font) (items : bs' ≡ bs ++ file) (fonts : fs' ≡ fs ++ f ∷ []) (start : f.start ≡ length bs) (long : f.length ≡ length file) where
  pub stored : inside (length bs) fs ≡ true → entries_of bs' fs' ≡ entries_of bs fs ++ record { name = font_name f; file = file; font = font_of f.vf } ∷ []
  stored e =
      let d : drop f.start (bs ++ file) ≡ file = rw start (drop_at bs file (length bs) refl) in
      let t : take f.length file ≡ file = take_all f.length file (omega arith) in
      rw (items, fonts) (map_push (entry_of (bs ++ file)) fs f ∙ rw (d, t, bytes_more bs file fs e))

  pub still_whole : total fs ≡ length bs → total fs' ≡ length bs'
  still_whole e = let l = length-append bs file in let t = total-push fs f in rw (items, fonts) (omega (arith, l, t))

  pub still_laid : inside (length bs) fs ≡ true → inside (length bs') fs' ≡ true
  still_laid e = let l = length-append bs file in rw (items, fonts) (inside-push (length bs) (length (bs ++ file)) fs f e (omega (arith, l)) (omega (arith, l)))
