-- The odd coefficients of a sequence. In characteristic 2 they are z times its derivative, so the product rule holds,
-- and a square has none.
--   odd           the odd coefficients
--   half          a number is even or odd
--   odd-odd       an odd coefficient stays;  odd-none  none where there is none;  odd-below  so below a bound
--   leibniz       the product rule;  odd-square  a square has no odd coefficient
--   unit-below    a product with a sequence that begins with 1 is 0 below n only where the other factor is
-- Assumes nothing.
use mathlib.Core.Path.{◌≡◌, refl, sym, ap, ap₂, ◌∙◌, fun_ext}
use mathlib.Core.Logic.{◌⊎◌, inl, inr, ⊎_elim}
use Prim.Native.Nat.{ℕ, zero, suc, ◌*◌, ◌≤◌, ◌<◌}
use native.Mathlib.Nat.{eq-or-lt_of_le, not-suc-le-zero}
use native.Mathlib.Omega.{arith}
use Rattle.algebra.specs.Field.{Ops, Laws}
use Rattle.algebra.proofs.Series.{Series, after_first, plus, scale, times, nought}
use Rattle.algebra.proofs.Series as S
use Rattle.algebra.proofs.Elements as E
use Rattle.algebra.proofs.Signs.{signs}

-- the odd coefficients: that at k + 1 is f's where that at k is not
unfoldable pub odd : {K : Type 0} (F : Ops K) → Series K → Series K
odd F f zero = F.zero
odd F f (suc k) = F.add (f (suc k)) (odd F (after_first f) k)

-- a number is even or odd
pub half : (k : ℕ) → ((i : ℕ) × (k ≡ 2 * i)) ⊎ ((i : ℕ) × (k ≡ suc (2 * i)))
half zero = inl (0, omega arith)
half (suc k) = ⊎_elim (λ e. inr (e.0, ap suc e.1)) (λ e. inl (suc e.0, omega (arith, e.1))) (half k)

module _ {K : Type 0} {F : Ops K} (L : Laws F) where
  open signs F use {0#, 1#, ◌⊕◌, ◌⊗◌, ◌⊞◌, ◌⊠◌}
  open L use {add_comm, add_assoc, zero-add, mul_comm, one-mul, mul-add}

  -- ---- what stands at even and at odd places

  odd_even : (i : ℕ) (f : Series K) → odd F f (2 * i) ≡ 0#
  unfolding odd
  odd_even zero f = refl
  odd_even (suc i) f =
      let e : 2 * suc i ≡ suc (suc (2 * i)) = omega arith in
      ap (odd F f) e ∙ E.add_back L (f (suc (suc (2 * i)))) _ ∙ odd_even i (after_first (after_first f))

  pub odd-odd : (i : ℕ) (f : Series K) → odd F f (suc (2 * i)) ≡ f (suc (2 * i))
  unfolding odd
  odd-odd i f = ap (λ x. f (suc (2 * i)) ⊕ x) (odd_even i (after_first f)) ∙ E.add-zero L _

  -- no odd coefficient where there is none
  pub odd-none : (f : Series K) (k : ℕ) → f k ≡ 0# → odd F f k ≡ 0#
  odd-none f k h = ⊎_elim (λ e. ap (odd F f) e.1 ∙ odd_even e.0 f) (λ e. ap (odd F f) e.1 ∙ odd-odd e.0 f ∙ ap f (sym e.1) ∙ h) (half k)

  pub odd-below : (f : Series K) (m : ℕ) → ((i : ℕ) → i < m → f (suc (2 * i)) ≡ 0#) → (k : ℕ) → k ≤ 2 * m → odd F f k ≡ 0#
  odd-below f m h k l =
      ⊎_elim (λ e. ap (odd F f) e.1 ∙ odd_even e.0 f) (λ e. ap (odd F f) e.1 ∙ odd-odd e.0 f ∙ h e.0 (omega (arith, e.1))) (half k)

  -- ---- the product rule

  odd-plus : (f g : Series K) (k : ℕ) → odd F (f ⊞ g) k ≡ odd F f k ⊕ odd F g k
  unfolding odd plus
  odd-plus f g zero = sym (zero-add 0#)
  odd-plus f g (suc k) = ap (λ x. f (suc k) ⊕ g (suc k) ⊕ x) (odd-plus (after_first f) (after_first g) k) ∙ simp (add_assoc, E.add_left_comm L)

  odd-scale : (c : K) (f : Series K) (k : ℕ) → odd F (scale F c f) k ≡ c ⊗ odd F f k
  unfolding odd scale
  odd-scale c f zero = sym (E.mul-zero L c)
  odd-scale c f (suc k) = ap (λ x. c ⊗ f (suc k) ⊕ x) (odd-scale c (after_first f) k) ∙ sym (mul-add c (f (suc k)) (odd F (after_first f) k))

  leibniz-at : (f g : Series K) (k : ℕ) → odd F (f ⊠ g) k ≡ (odd F f ⊠ g) k ⊕ (f ⊠ odd F g) k
  unfolding odd times plus scale
  leibniz-at f g zero = sym (ap₂ ◌⊕◌ (E.zero-mul L (g 0)) (E.mul-zero L (f 0)) ∙ zero-add 0#)
  leibniz-at f g (suc k) =
      let c : K = f 0 in
      let x : K = g (suc k) in
      let p : K = (after_first f ⊠ g) k in
      let q : K = odd F (after_first g) k in
      let r : K = (odd F (after_first f) ⊠ g) k in
      let u : K = (after_first f ⊠ odd F g) k in
      ap (λ w. c ⊗ x ⊕ p ⊕ w) (odd-plus (scale F c (after_first g)) (after_first f ⊠ g) k ∙ ap₂ ◌⊕◌ (odd-scale c (after_first g) k) (leibniz-at (after_first f) g k))
      ∙ regroup c x p q r u
      ∙ sym (ap (λ w. w ⊕ (c ⊗ (x ⊕ q) ⊕ u)) (ap₂ ◌⊕◌ (E.zero-mul L x) (ap (λ h. h k) (S.plus-times L (after_first f) (odd F (after_first f)) g)) ∙ zero-add _))
    where
      regroup : (c x p q r u : K) → c ⊗ x ⊕ p ⊕ (c ⊗ q ⊕ (r ⊕ u)) ≡ (p ⊕ r) ⊕ (c ⊗ (x ⊕ q) ⊕ u)
      regroup c x p q r u =
          ap (λ w. w ⊕ (c ⊗ q ⊕ (r ⊕ u))) (add_comm (c ⊗ x) p) ∙ add_assoc p (c ⊗ x) (c ⊗ q ⊕ (r ⊕ u))
          ∙ ap (λ w. p ⊕ w) (sym (add_assoc (c ⊗ x) (c ⊗ q) (r ⊕ u)) ∙ ap (λ w. w ⊕ (r ⊕ u)) (sym (mul-add c x q)) ∙ E.add_left_comm L (c ⊗ (x ⊕ q)) r u)
          ∙ sym (add_assoc p r (c ⊗ (x ⊕ q) ⊕ u))

  pub leibniz : (f g : Series K) → odd F (f ⊠ g) ≡ odd F f ⊠ g ⊞ f ⊠ odd F g
  unfolding plus
  leibniz f g = fun_ext (leibniz-at f g)

  pub odd-square : (f : Series K) → odd F (f ⊠ f) ≡ nought F
  odd-square f = leibniz f f ∙ ap (λ w. w ⊞ f ⊠ odd F f) (S.times-comm L (odd F f) f) ∙ S.plus-self L (f ⊠ odd F f)

  -- ---- a factor with constant 1 hides no coefficient

  last-at : (k : ℕ) (g h : Series K) → ((i : ℕ) → i < k → g i ≡ 0#) → (g ⊠ h) k ≡ g k ⊗ h 0
  unfolding times
  last-at zero g h z = refl
  last-at (suc k) g h z =
      ap₂ ◌⊕◌ (ap (λ x. x ⊗ h (suc k)) (z 0 (omega arith)) ∙ E.zero-mul L (h (suc k))) (last-at k (after_first g) h (λ i l. z (suc i) (omega arith))) ∙ zero-add _

  pub unit-below : (n : ℕ) (g h : Series K) → h 0 ≡ 1# → ((k : ℕ) → k < n → (g ⊠ h) k ≡ 0#) → (k : ℕ) → k < n → g k ≡ 0#
  unit-below zero g h one z k l = absurd (not-suc-le-zero l)
  unit-below (suc n) g h one z k l = go (unit-below n g h one (λ i e. z i (omega arith)))
    where
      go : ((i : ℕ) → i < n → g i ≡ 0#) → g k ≡ 0#
      go rec =
          ⊎_elim (λ e. let i : k ≡ n = omega (arith, e) in ap g i ∙ sym (ap (λ x. g n ⊗ x) one ∙ mul_comm (g n) 1# ∙ one-mul (g n)) ∙ sym (last-at n g h rec) ∙ z n (omega arith)) (λ e. rec k (omega arith)) (eq-or-lt_of_le l)
