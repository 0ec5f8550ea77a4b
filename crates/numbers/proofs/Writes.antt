-- What a write leaves, and that it is read again. Assumes nothing.
use Rattle.std.proofs.Common.{◌≡◌, ℕ, ◌+◌, ◌^◌, ◌≤◌, ◌*◌, ◌<ℤ◌, ◌≤ℤ◌, ◌+ℤ◌, pos, negsuc, zero, suc, ◌⊎◌, inl, inr, pow-suc, Bool, true, false, cond, ◌&&◌, ltb, leb, List, length, ℤ, IfSome, Some, None, Option, sym, refl, ap, ◌∙◌, arith}
use lib.Seq.{paste}
use Rattle.std.proofs.lemmas.Bool.{le-leb, leb-true, ltb-true, le-ltb, cond-true, cond-false, and_parts, and_from}
use Rattle.std.proofs.lemmas.Int.{ints}
use Rattle.numbers.specs.Bytes.{is_width, readable, number, number_at, signed, signed_at, digits, fitting, written, written_to, signed_fits, complement, complement_at, signed_written, signed_written_to}
use Rattle.numbers.proofs.Digits.{paste-number, length-paste-digits, signed-complement}

module _ (s : List ℕ) (p w n : ℕ) (room : p + w ≤ length s) (fit : fitting w n ≡ true) where
  both : leb (p + w) (length s) && fitting w n ≡ true
  both = and_from _ _ (le-leb (p + w) (length s) room) fit

  pub goes_to : Some (p + w) ≡ written_to s p w n
  goes_to = sym (cond-true _ _ _ both)

  pub leaves : paste s p (digits w n) w ≡ written s p w n
  leaves = sym (cond-true _ _ _ both)

  pub reads_back : number_at (paste s p (digits w n) w) p w ≡ Some n
  reads_back =
      let parts = and_parts (is_width w) (ltb n (256 ^ w)) fit in
      let long = length-paste-digits s p w n room in
      cond-true _ _ _ (and_from _ _ parts.0 (le-leb (p + w) (length (paste s p (digits w n) w)) (omega (arith, long))))
      ∙ ap Some (paste-number s p w n room (ltb-true n (256 ^ w) parts.1))

-- what an answer tells that a test allows
pub allowed : {A : Type 0} (b : Bool) (x y : A) → Some x ≡ cond b (Some y) None → (b ≡ true) × (x ≡ y)
allowed true x y q = (refl, cc)
allowed false x y q = absurd (let d : ◌≡◌ {A = ℕ} 0 1 = cc in omega arith)

-- half of the numbers of w bytes are negative; what is not among them, or not among the others, does not fit
module _ (w : ℕ) (e : ℤ) (q : Some e ≡ cond (is_width w) (Some (pos (256 ^ w))) None) where
  told : (is_width w ≡ true) × (e ≡ pos (256 ^ w))
  told = allowed (is_width w) e (pos (256 ^ w)) q

  even : (v : ℕ) → is_width v ≡ true → (m : ℕ) × (256 ^ v ≡ 2 * m)
  even zero h = absurd (let d : ◌≡◌ {A = ℕ} 0 1 = cc in omega arith)
  even (suc v) h = let p : 256 ^ suc v ≡ 256 ^ v * 256 = pow-suc 256 v in (256 ^ v * 128, omega arith)

  pub twice : (m : ℕ) × (e ≡ pos (2 * m))
  twice = let m = even w told.0 in (m.0, told.1 ∙ ap pos m.1)

  unfit : (z : ℤ) (m : ℕ) → e ≡ pos (2 * m) → ((z +ℤ pos m) <ℤ pos 0) ⊎ (pos m ≤ℤ z) → signed_fits w z ≡ false
  unfit (pos n) m k (inl h) = absurd (omega (arith, ints))
  unfit (pos n) m k (inr h) = let t = told.1 in le-ltb (2 * n) (256 ^ w) (omega (arith, ints))
  unfit (negsuc n) m k (inl h) = let t = told.1 in le-ltb (2 * n) (256 ^ w) (omega (arith, ints))
  unfit (negsuc n) m k (inr h) = absurd (omega (arith, ints))

  pub outside : (z : ℤ) (m : ℕ) → e ≡ pos (2 * m) → ((z +ℤ pos m) <ℤ pos 0) ⊎ (pos m ≤ℤ z) → None ≡ complement_at w z
  outside z m k h = let f = unfit z m k h in let t = told.0 in let b : (is_width w && signed_fits w z) ≡ false = rw (t, f) in sym (cond-false (is_width w && signed_fits w z) (Some (complement w z)) None b)

module _ (w : ℕ) (z : ℤ) (n : ℕ) (q : Some n ≡ complement_at w z) where
  pub fits_z : (is_width w && signed_fits w z) ≡ true
  fits_z = (allowed (is_width w && signed_fits w z) n (complement w z) q).0

  pub is_z : n ≡ complement w z
  is_z = (allowed (is_width w && signed_fits w z) n (complement w z) q).1

  pub signed_goes_to : (s : List ℕ) (p : ℕ) → written_to s p w n ≡ signed_written_to s p w z
  signed_goes_to s p = ap (written_to s p w) is_z ∙ sym (cond-true _ _ _ fits_z)

  pub signed-leaves : (s : List ℕ) (p : ℕ) → written s p w n ≡ signed_written s p w z
  signed-leaves s p = ap (written s p w) is_z ∙ sym (cond-true _ _ _ fits_z)

  back : signed w n ≡ z
  back =
      let parts = and_parts (is_width w) (signed_fits w z) fits_z in
      let one = leb-true 1 w (and_parts (leb 1 w) (leb w 4) parts.0).0 in
      ap (signed w) is_z ∙ signed-complement w z (omega arith) parts.1

  at_place : (t : List ℕ) (p : ℕ) (b : Bool) → cond b (Some (number t p w)) None ≡ Some n → cond b (Some (signed w (number t p w))) None ≡ Some z
  at_place t p true e = let same : number t p w ≡ n = cc in ap (λ m. Some (signed w m)) same ∙ ap Some back
  at_place t p false e = absurd (let d : ◌≡◌ {A = ℕ} 0 1 = cc in omega arith)

  pub signed_reads_back : (r : Option ℕ) (t : List ℕ) (p : ℕ) → IfSome r (λ _. number_at t p w ≡ Some n) → IfSome r (λ _. signed_at t p w ≡ Some z)
  signed_reads_back None t p e = tt
  signed_reads_back (Some x) t p e = at_place t p (readable t p w) e
