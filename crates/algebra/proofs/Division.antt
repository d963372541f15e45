-- Division by a monic polynomial, as the code runs it: quotient and remainder are right, and the only ones.
--   division         f = (monic p) quo + rem
--   division-unique  no other quotient and remainder of this length
--   rem-cong         the remainder is congruent to f
-- Assumes nothing.
use mathlib.Core.Path.{◌∙◌, ◌≡◌, ap, ap₂, fun_ext, subst, sym}
use mathlib.Core.Logic.{◌≢◌, ◌⊎◌, inl, inr}
use mathlib.Core.List.{List, [], ◌∷◌, map}
use Prim.Native.Nat.{◌+◌, ◌≤◌, suc, zero, ℕ}
use native.Mathlib.Omega.{arith}
use lib.ListN.{get_or-eq_default, get_or, length, take}
use lib.Seq.{ext_get_or}
use Rattle.algebra.specs.Field.{Laws, Ops}
use Rattle.algebra.specs.Polynomial.{add, coef}
use Rattle.algebra.specs.Routines.{quotient_digit, monic, quo, rem, shift_in}
use Rattle.algebra.proofs.Elements.{add_back, add_left_comm, add-zero, equal-of-sum, mul-zero}
use Rattle.algebra.proofs.Series.{Series, equal-of-plus, starting_with, starting_with-plus, starting_with-times, nought, nought-plus, plus, plus_assoc, plus_comm, plus-self, scale, times-comm, times-nought, times-plus}
use Rattle.algebra.proofs.Coefficients.{coef-add, coef-cons, coef-zeros}
use Rattle.algebra.proofs.Degree.{Top, monic-list, top-times, top?}
use Rattle.algebra.proofs.Lengths.{length-rem}
use Rattle.algebra.proofs.Divisibility.{divides-multiple}
use Rattle.algebra.proofs.Congruence.{Cong}
use Rattle.algebra.proofs.Signs.{signs}

module _ {K : Type 0} {F : Ops K} (L : Laws F) where
  open signs F use {0#, 1#, ◌⊕◌, ◌⊗◌, ◌⊞◌, ◌⊠◌, ◌∣◌}
  open L use {add_comm, add_assoc, zero-add, add-self, mul_comm, one-mul}

  step-at : (p s : List K) → length s ≡ suc (length p) → (k : ℕ)
      → let t : K = get_or s (length p) 0# in coef F s k ≡ t ⊗ coef F (monic F p) k ⊕ coef F (add F (take (length p) s) (map (F.mul t) p)) k
  unfolding add
  step-at [] [] e k = absurd (omega (arith, e))
  step-at [] (x ∷ []) e zero = sym (ap (λ w. w ⊕ 0#) (mul_comm x 1# ∙ one-mul x) ∙ add-zero L x)
  step-at [] (x ∷ []) e (suc k) = sym (add-zero L (x ⊗ 0#) ∙ mul-zero L x)
  step-at [] (x ∷ y ∷ s) e k = absurd (omega (arith, e))
  step-at (a ∷ p) [] e k = absurd (omega (arith, e))
  step-at (a ∷ p) (x ∷ s) e zero = let b : K = get_or s (length p) 0# ⊗ a in sym (ap (λ w. b ⊕ w) (add_comm x b) ∙ add_back L b x)
  step-at (a ∷ p) (x ∷ s) e (suc k) = step-at p s (omega (arith, e)) k

  step : (p : List K) (c : K) (r : List K) → length r ≡ length p
      → coef F (c ∷ r) ≡ scale F (quotient_digit F p c r) (coef F (monic F p)) ⊞ coef F (shift_in F p c r)
  unfolding quotient_digit shift_in plus scale
  step p c r e = fun_ext (step-at p (c ∷ r) (ap suc e))

  pub plus-rotate : (a b c : Series K) → (a ⊞ b) ⊞ c ≡ (a ⊞ c) ⊞ b
  plus-rotate a b c = plus_assoc L a b c ∙ ap (λ w. a ⊞ w) (plus_comm L b c) ∙ sym (plus_assoc L a c b)

  -- f = (monic p) quo + rem
  pub division : (p f : List K) → coef F f ≡ coef F (monic F p) ⊠ coef F (quo F p f) ⊞ coef F (rem F p f)
  unfolding rem quo
  division p [] = sym (ap₂ ◌⊞◌ (times-nought L (coef F (monic F p))) (coef-zeros L (length p)) ∙ plus-self L (nought F))
  division p (c ∷ f) =
      let m : Series K = coef F (monic F p) in
      let q : Series K = coef F (quo F p f) in
      let r : List K = rem F p f in
      let t : K = quotient_digit F p c r in
      coef-cons L c f
      ∙ ap₂ (λ a w. starting_with a w) (sym (add-zero L c)) (division p f ∙ plus_comm L (m ⊠ q) (coef F r))
      ∙ sym (starting_with-plus L c 0# (coef F r) (m ⊠ q))
      ∙ ap₂ ◌⊞◌ (sym (coef-cons L c r) ∙ step p c r (length-rem F p f)) (ap (starting_with 0#) (times-comm L m q))
      ∙ plus-rotate (scale F t m) (coef F (shift_in F p c r)) (starting_with 0# (q ⊠ m))
      ∙ ap (λ w. w ⊞ coef F (shift_in F p c r)) (sym (starting_with-times L t q m) ∙ times-comm L (starting_with t q) m ∙ ap (λ w. m ⊠ w) (sym (coef-cons L t (quo F p f))))

  -- the remainder is congruent to f
  pub rem-cong : (p f : List K) → Cong F (monic F p) f (rem F p f)
  rem-cong p f =
      subst (λ w. monic F p ∣ w)
      (sym (ap (λ w. w ⊞ coef F (rem F p f)) (division p f) ∙ plus_assoc L _ _ _ ∙ ap (λ w. coef F (monic F p) ⊠ coef F (quo F p f) ⊞ w) (plus-self L _)
      ∙ plus_comm L _ _ ∙ nought-plus L _))
      (divides-multiple L (monic F p) (quo F p f))

  -- what is equal on both sides changes sides
  across : (a b r s : Series K) → a ⊞ r ≡ b ⊞ s → a ⊞ b ≡ r ⊞ s
  unfolding plus
  across a b r s h = fun_ext λ k. equal-of-sum L _ _ (cancel (a k) (b k) (r k) (s k) (ap (λ f. f k) h))
    where
      cancel : (a b r s : K) → a ⊕ r ≡ b ⊕ s → (a ⊕ b) ⊕ (r ⊕ s) ≡ 0#
      cancel a b r s e = simp (add_assoc, add_left_comm L b r s) (sym (add_assoc a r (b ⊕ s)) ∙ ap (λ w. w ⊕ (b ⊕ s)) e ∙ add-self (b ⊕ s))

  beyond : (u v : List K) (k : ℕ) → length u ≤ k → length v ≤ k → (coef F u ⊞ coef F v) k ≡ 0#
  unfolding plus
  beyond u v k a b = ap₂ ◌⊕◌ (get_or-eq_default u 0# a) (get_or-eq_default v 0# b) ∙ zero-add 0#

  -- no other quotient and remainder of this length
  pub division-unique : (p f q r : List K) → length r ≡ length p → coef F f ≡ coef F (monic F p) ⊠ coef F q ⊞ coef F r
      → (coef F q ≡ coef F (quo F p f)) × (r ≡ rem F p f)
  division-unique p f q r e h =
      let m : Series K = coef F (monic F p) in
      let s : List K = add F q (quo F p f) in
      let gap : m ⊠ coef F s ≡ coef F r ⊞ coef F (rem F p f) =
      ap (λ w. m ⊠ w) (coef-add L q (quo F p f)) ∙ times-plus L m (coef F q) (coef F (quo F p f))
      ∙ across (m ⊠ coef F q) (m ⊠ coef F (quo F p f)) (coef F r) (coef F (rem F p f)) (sym h ∙ division p f) in
      let same-q : coef F q ≡ coef F (quo F p f) = equal-of-plus L (coef F q) (coef F (quo F p f)) (sym (coef-add L q (quo F p f)) ∙ flat s gap (top? L s)) in
      let same-r : coef F r ≡ coef F (rem F p f) =
      equal-of-plus L (coef F r) (coef F (rem F p f))
      (sym gap ∙ ap (λ w. m ⊠ w) (coef-add L q (quo F p f) ∙ ap (λ w. w ⊞ coef F (quo F p f)) same-q ∙ plus-self L _) ∙ times-nought L m) in
      (same-q, ext_get_or 0# r (rem F p f) (e ∙ sym (length-rem F p f)) (λ i l. ap (λ f. f i) same-r))
    where
      flat : (s : List K) → coef F (monic F p) ⊠ coef F s ≡ coef F r ⊞ coef F (rem F p f)
          → (coef F s ≡ nought F) ⊎ ((n : ℕ) × (c : K) × (c ≢ 0#) × Top F (coef F s) n c) → coef F s ≡ nought F
      flat s g (inl z) = z
      flat s g (inr v) =
          absurd (v.2 (sym (one-mul v.1) ∙ sym (top-times L (monic-list L p) v.3).at
          ∙ ap (λ f. f (length p + v.0)) g ∙ beyond r (rem F p f) (length p + v.0) (omega arith) (omega (arith, length-rem F p f))))
