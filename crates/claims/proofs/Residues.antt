-- The remainder of z^(2^m) + z by a monic polynomial, as the code makes it: m squarings of z, and z added.
--   rem-of-cong    what is as long as p and congruent to f modulo p is the remainder
--   residue-sum    so z^(2^m) and z, both reduced
--   rem-z-one, rem-z-more   z reduced by a polynomial of degree 1, and of higher degree
--   residue-none, residue-one, residue-more   what the code leaves in each case
-- Assumes nothing.
use mathlib.Core.Path.{◌≡◌, refl, sym, ap, ap₂, ◌∙◌}
use mathlib.Core.List.{List, [], ◌∷◌}
use Prim.Native.Nat.{ℕ, zero, suc, ◌-◌, ◌^◌, ◌≤◌, ◌<◌}
use native.Mathlib.Omega.{arith}
use lib.Bits.{bit_xor, xor_comm, xor_zero_r}
use lib.ListN.{get_or, length, replicate, set}
use Rattle.algebra.specs.Field.{Laws, OnNumbers, Ops}
use Rattle.algebra.specs.Polynomial.{Below, add, coef, field_poly, frobenius, linear}
use Rattle.algebra.specs.Routines.{frobenius_mod, monic, quotient_digit, rem, shift_in}
use Rattle.algebra.proofs.Series.{Series, plus, plus-back, plus_comm, times}
use Rattle.algebra.proofs.Congruence.{Cong, cong-add}
use Rattle.algebra.proofs.Crossing.{Elem, by-elements, elems, laws, low, low-add, low-field_poly, low-frobenius_mod, low-rem}
use Rattle.algebra.proofs.Divisibility.{quotient-exact}
use Rattle.algebra.proofs.Division.{division-unique, rem-cong}
use Rattle.algebra.proofs.Lengths.{length-add, length-frobenius_mod, length-rem}
use Rattle.algebra.proofs.Modular.{frobenius-mod}
use Rattle.algebra.proofs.NumberElements.{zero-mul}
use Rattle.field.specs.Field.{G}
use Rattle.poly.proofs.Divisions.{rem-short}
use Rattle.poly.proofs.Logs.{numbers_of}
use Rattle.poly.proofs.Sums.{add-nil}
use Rattle.poly.specs.Lent.{Lent}
use Rattle.poly_powers.specs.Asking.{Startable}

module _ {K : Type 0} {F : Ops K} (L : Laws F) where
  -- what is as long as p and congruent to f modulo p is the remainder
  rem-of-cong : (p f r : List K) → length r ≡ length p → Cong F (monic F p) f r → r ≡ rem F p f
  rem-of-cong p f r n c =
      let R : Series K = coef F r in
      let Q : Series K = coef F f in
      let m : Series K = times F (coef F (monic F p)) (coef F c.quotient) in
      (division-unique L p f c.quotient r n
      (sym (plus-back L R Q) ∙ plus_comm L R (plus F R Q) ∙ ap (λ w. plus F w R) (plus_comm L R Q ∙ sym (quotient-exact L c)))).1

  -- z^(2^m) and z, both reduced
  residue-up : (m : ℕ) (p : List K) → let z : List K = rem F p (linear F F.zero) in add F (frobenius_mod F p m z) z ≡ rem F p (field_poly F m)
  residue-up m p =
      let x : List K = linear F F.zero in
      let z : List K = rem F p x in
      let w : List K = frobenius_mod F p m z in
      let n : length z ≡ length p = length-rem F p x in
      let k : length w ≡ length p = length-frobenius_mod F p m z n in
      rem-of-cong p (field_poly F m) (add F w z) (length-add F w z (omega arith) ∙ n)
      (cong-add L (frobenius F m x) w x z (frobenius-mod L p m x z (rem-cong L p x)) (rem-cong L p x))

module _ {H : Ops ℕ} {q : ℕ} (N : OnNumbers H q) where
  -- the same of numbers below q
  residue-sum : (m : ℕ) (p : List ℕ) → Below q p
      → add H (frobenius_mod H p m (rem H p (linear H H.zero))) (rem H p (linear H H.zero)) ≡ rem H p (field_poly H m)
  residue-sum m =
      by-elements N (λ p. add H (frobenius_mod H p m (rem H p (linear H H.zero))) (rem H p (linear H H.zero)) ≡ rem H p (field_poly H m)) λ u.
      let x : List (Elem q) = linear (elems N) (elems N).zero in
      let z : List (Elem q) = rem (elems N) u x in
      let zs : low N z ≡ rem H (low N u) (linear H H.zero) = low-rem N u x in
      ap₂ (add H) (ap (frobenius_mod H (low N u) m) (sym zs) ∙ sym (low-frobenius_mod N u m z)) (sym zs)
      ∙ sym (low-add N (frobenius_mod (elems N) u m z) z) ∙ ap (low N) (residue-up (laws N) m u) ∙ low-rem N u (field_poly (elems N) m)
      ∙ ap (rem H (low N u)) (low-field_poly N m)

-- ---- z reduced

-- by z + c it is c
rem-z-one : (m : ℕ) → OnNumbers (G m) (2 ^ m) → (c : ℕ) → c < 2 ^ m → rem (G m) (c ∷ []) (0 ∷ 1 ∷ []) ≡ c ∷ []
unfolding rem shift_in quotient_digit add
rem-z-one m N c h =
    ap (λ x. bit_xor 0 ((G m).mul x c) ∷ []) (ap (bit_xor 1) (zero-mul N c h) ∙ xor_zero_r 1)
    ∙ ap (λ x. bit_xor 0 x ∷ []) (N.one-mul c h) ∙ ap (λ x. x ∷ []) (xor_comm 0 c ∙ xor_zero_r c)

-- zeros added
add-zeros : (m : ℕ) (f : List ℕ) (n : ℕ) → n ≤ length f → add (G m) f (replicate n 0) ≡ f
unfolding add
add-zeros m [] zero h = refl
add-zeros m [] (suc n) h = absurd (omega arith)
add-zeros m (x ∷ f) zero h = refl
add-zeros m (x ∷ f) (suc n) h = ap₂ (λ a b. a ∷ b) (xor_zero_r x) (add-zeros m f n (omega arith))

-- z added at place 1
add-z : (m : ℕ) (f : List ℕ) (n : ℕ) → length f ≡ suc (suc n) → set f 1 (bit_xor (get_or f 1 0) 1) ≡ add (G m) f (0 ∷ 1 ∷ replicate n 0)
unfolding add
add-z m [] n h = absurd (omega (arith, h))
add-z m (x ∷ []) n h = absurd (omega (arith, h))
add-z m (x ∷ y ∷ f) n h = ap₂ (λ a b. a ∷ bit_xor y 1 ∷ b) (sym (xor_zero_r x)) (sym (add-zeros m f n (omega (arith, h))))

-- c added at place 0
add-c : (m : ℕ) (f : List ℕ) (c : ℕ) → length f ≡ 1 → set f 0 (bit_xor (get_or f 0 0) c) ≡ add (G m) f (c ∷ [])
unfolding add
add-c m [] c h = absurd (omega (arith, h))
add-c m (x ∷ []) c h = refl
add-c m (x ∷ y ∷ f) c h = absurd (omega (arith, h))

-- ---- what the code leaves

module _ {m : ℕ} {ls ts p w₀ w : List ℕ} (lent : Lent m ls ts) (g : Startable m p w₀) (e : w ≡ frobenius_mod (G m) p m (rem (G m) p (0 ∷ 1 ∷ []))) where
  -- as long as p
  pub residue-long : length w ≡ length p
  residue-long = ap length e ∙ length-frobenius_mod (G m) p m (rem (G m) p (0 ∷ 1 ∷ [])) (length-rem (G m) p (0 ∷ 1 ∷ []))

  -- where z reduced is r
  residue-with : (r : List ℕ) → rem (G m) p (0 ∷ 1 ∷ []) ≡ r → add (G m) w r ≡ rem (G m) p (field_poly (G m) m)
  residue-with r s = ap₂ (add (G m)) e (sym s) ∙ residue-sum (numbers_of lent) m p g.small

  -- of degree 0
  pub residue-none : length p ≡ 0 → w ≡ rem (G m) p (field_poly (G m) m)
  residue-none z =
      let none : rem (G m) p (0 ∷ 1 ∷ []) ≡ [] = empty (rem (G m) p (0 ∷ 1 ∷ [])) (length-rem (G m) p (0 ∷ 1 ∷ []) ∙ z) in
      sym (add-nil m w) ∙ residue-with [] none
    where
      empty : (l : List ℕ) → length l ≡ 0 → l ≡ []
      empty [] h = refl
      empty (x ∷ l) h = absurd (omega (arith, h))

  -- of degree 1
  pub residue-one : length p ≡ 1 → set w 0 (bit_xor (get_or w 0 0) (get_or p 0 0)) ≡ rem (G m) p (field_poly (G m) m)
  residue-one z = add-c m w (get_or p 0 0) (residue-long ∙ z) ∙ residue-with (get_or p 0 0 ∷ []) (single p z g.small)
    where
      single : (p : List ℕ) → length p ≡ 1 → Below (2 ^ m) p → rem (G m) p (0 ∷ 1 ∷ []) ≡ get_or p 0 0 ∷ []
      single [] h b = absurd (omega (arith, h))
      single (c ∷ []) h b = rem-z-one m (numbers_of lent) c b.0
      single (c ∷ d ∷ p) h b = absurd (omega (arith, h))

  -- of a higher degree
  pub residue-more : 2 ≤ length p → set w 1 (bit_xor (get_or w 1 0) 1) ≡ rem (G m) p (field_poly (G m) m)
  residue-more z =
      let n : ℕ = length p - 2 in
      let two : length w ≡ suc (suc n) = omega (arith, residue-long) in
      add-z m w n two ∙ residue-with (0 ∷ 1 ∷ replicate n 0) (rem-short lent p (0 ∷ 1 ∷ []) z)
