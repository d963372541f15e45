-- The ring of sequences of coefficients (formal power series). Two sequences are equal where all coefficients are, and
-- the equality is antt's own: `rw`, `simp` and `cc` work on it. A polynomial is a sequence that a list holds
-- (`Coefficients.antt`).
--   Series           a sequence, constant first
--   after_first           what stands behind its first place
--   starting_with            c + z f
--   plus, times      sum and product
--   scale            a multiple by an element
--   nought, unit     0 and 1
--   plus_comm, plus_assoc, nought-plus, plus-self            the sums are a group in which each is its own inverse
--   times-comm, times-assoc, times-unit, times-plus          the ring
--   equal-of-plus    sequences whose sum is 0 are equal
--   starting_with-square     (c + z f)^2 = c^2 + z^2 f^2
-- Assumes nothing.
use mathlib.Core.Path.{◌∙◌, ◌≡◌, ap, ap₂, fun_ext, refl, sym}
use mathlib.Core.Logic.{◌≢◌}
use Prim.Native.Nat.{suc, zero, ℕ}
use Rattle.algebra.specs.Field.{Laws, Ops}
use Rattle.algebra.proofs.Elements.{add_back, add_left_comm, add-mul, add-zero, equal-of-sum, zero-mul}

abbrev pub Series : Type 0 → Type 0
Series K = ℕ → K

abbrev pub after_first : {K : Type 0} → Series K → Series K
after_first f k = f (suc k)

unfoldable pub starting_with : {K : Type 0} → K → Series K → Series K
starting_with c f zero = c
starting_with c f (suc k) = f k

module _ {K : Type 0} (F : Ops K) where
  unfoldable pub plus : Series K → Series K → Series K
  plus f g k = F.add (f k) (g k)

  unfoldable pub scale : K → Series K → Series K
  scale c f k = F.mul c (f k)

  unfoldable pub times : Series K → Series K → Series K
  times f g zero = F.mul (f 0) (g 0)
  times f g (suc k) = F.add (F.mul (f 0) (g (suc k))) (times (after_first f) g k)

  abbrev pub nought : Series K
  nought k = F.zero

  abbrev pub unit : Series K
  unit = starting_with F.one nought

module _ {K : Type 0} {F : Ops K} (L : Laws F) where
  infixl 60 ◌⊕◌
  infixl 70 ◌⊗◌
  infixl 60 ◌⊞◌
  infixl 70 ◌⊠◌
  open F use {zero as 0#, add as ◌⊕◌, mul as ◌⊗◌}
  open L use {add_comm, add_assoc, zero-add, add-self, mul_comm, mul_assoc, one-mul, mul-add, mul-inv}

  abbrev ◌⊞◌ : Series K → Series K → Series K
  f ⊞ g = plus F f g

  abbrev ◌⊠◌ : Series K → Series K → Series K
  f ⊠ g = times F f g

  pub plus_comm : (f g : Series K) → f ⊞ g ≡ g ⊞ f
  unfolding plus
  plus_comm f g = fun_ext λ k. add_comm (f k) (g k)

  pub plus_assoc : (f g h : Series K) → f ⊞ g ⊞ h ≡ f ⊞ (g ⊞ h)
  unfolding plus
  plus_assoc f g h = fun_ext λ k. add_assoc (f k) (g k) (h k)

  pub nought-plus : (f : Series K) → nought F ⊞ f ≡ f
  unfolding plus
  nought-plus f = fun_ext λ k. zero-add (f k)

  pub plus-left-comm : (f g h : Series K) → f ⊞ (g ⊞ h) ≡ g ⊞ (f ⊞ h)
  plus-left-comm f g h = sym (plus_assoc f g h) ∙ ap (λ w. w ⊞ h) (plus_comm f g) ∙ plus_assoc g f h

  pub plus-self : (f : Series K) → f ⊞ f ≡ nought F
  unfolding plus
  plus-self f = fun_ext λ k. add-self (f k)

  pub plus-back : (f g : Series K) → f ⊞ (f ⊞ g) ≡ g
  unfolding plus
  plus-back f g = fun_ext λ k. add_back L (f k) (g k)

  pub equal-of-plus : (f g : Series K) → f ⊞ g ≡ nought F → f ≡ g
  unfolding plus
  equal-of-plus f g e = fun_ext λ k. equal-of-sum L (f k) (g k) (ap (λ w. w k) e)

  -- ---- products: each law by the place k, for all first factors at once

  pub nought-at : (g : Series K) (k : ℕ) → (nought F ⊠ g) k ≡ 0#
  unfolding times
  nought-at g zero = zero-mul L (g 0)
  nought-at g (suc k) = ap₂ ◌⊕◌ (zero-mul L (g (suc k))) (nought-at g k) ∙ zero-add 0#

  add_at : (f g h : Series K) (k : ℕ) → ((f ⊞ g) ⊠ h) k ≡ (f ⊠ h) k ⊕ (g ⊠ h) k
  unfolding times plus
  add_at f g h zero = add-mul L (f 0) (g 0) (h 0)
  add_at f g h (suc k) =
      ap₂ ◌⊕◌ (add-mul L (f 0) (g 0) (h (suc k))) (add_at (after_first f) (after_first g) h k)
      ∙ simp (add_assoc, add_left_comm L)

  scale_at : (c : K) (f g : Series K) (k : ℕ) → (scale F c f ⊠ g) k ≡ c ⊗ (f ⊠ g) k
  unfolding times scale
  scale_at c f g zero = mul_assoc c (f 0) (g 0)
  scale_at c f g (suc k) =
      ap₂ ◌⊕◌ (mul_assoc c (f 0) (g (suc k))) (scale_at c (after_first f) g k) ∙ sym (mul-add c (f 0 ⊗ g (suc k)) ((after_first f ⊠ g) k))

  -- the product by its last place, where `times` goes by the first
  other-end : (f g : Series K) (k : ℕ) → (f ⊠ g) (suc k) ≡ f (suc k) ⊗ g 0 ⊕ (f ⊠ after_first g) k
  unfolding times
  other-end f g zero = add_comm (f 0 ⊗ g 1) (f 1 ⊗ g 0)
  other-end f g (suc k) =
      ap (λ w. f 0 ⊗ g (suc (suc k)) ⊕ w) (other-end (after_first f) g k)
      ∙ add_left_comm L (f 0 ⊗ g (suc (suc k))) (f (suc (suc k)) ⊗ g 0) ((after_first f ⊠ after_first g) k)

  comm-at : (f g : Series K) (k : ℕ) → (f ⊠ g) k ≡ (g ⊠ f) k
  unfolding times
  comm-at f g zero = mul_comm (f 0) (g 0)
  comm-at f g (suc k) = ap₂ ◌⊕◌ (mul_comm (f 0) (g (suc k))) (comm-at (after_first f) g k) ∙ sym (other-end g f k)

  regroup : (x y z v w : K) → x ⊗ y ⊗ z ⊕ (x ⊗ v ⊕ w) ≡ x ⊗ (y ⊗ z ⊕ v) ⊕ w
  regroup x y z v w = simp (mul-add, mul_assoc, add_assoc)

  assoc-at : (f g h : Series K) (k : ℕ) → (f ⊠ g ⊠ h) k ≡ (f ⊠ (g ⊠ h)) k
  unfolding times plus scale
  assoc-at f g h zero = mul_assoc (f 0) (g 0) (h 0)
  assoc-at f g h (suc k) =
      ap (λ w. f 0 ⊗ g 0 ⊗ h (suc k) ⊕ w)
      (add_at (scale F (f 0) (after_first g)) (after_first f ⊠ g) h k ∙ ap₂ ◌⊕◌ (scale_at (f 0) (after_first g) h k) (assoc-at (after_first f) g h k))
      ∙ regroup (f 0) (g 0) (h (suc k)) ((after_first g ⊠ h) k) ((after_first f ⊠ (g ⊠ h)) k)

  unit-at : (f : Series K) (k : ℕ) → (unit F ⊠ f) k ≡ f k
  unfolding times starting_with
  unit-at f zero = one-mul (f 0)
  unit-at f (suc k) = ap₂ ◌⊕◌ (one-mul (f (suc k))) (nought-at f k) ∙ add-zero L (f (suc k))

  pub times-comm : (f g : Series K) → f ⊠ g ≡ g ⊠ f
  times-comm f g = fun_ext (comm-at f g)

  pub times-assoc : (f g h : Series K) → f ⊠ g ⊠ h ≡ f ⊠ (g ⊠ h)
  times-assoc f g h = fun_ext (assoc-at f g h)

  pub times-left-comm : (f g h : Series K) → f ⊠ (g ⊠ h) ≡ g ⊠ (f ⊠ h)
  times-left-comm f g h = sym (times-assoc f g h) ∙ ap (λ w. w ⊠ h) (times-comm f g) ∙ times-assoc g f h

  pub times-plus : (f g h : Series K) → f ⊠ (g ⊞ h) ≡ f ⊠ g ⊞ f ⊠ h
  unfolding plus
  times-plus f g h =
      times-comm f (g ⊞ h) ∙ fun_ext (add_at g h f) ∙ ap₂ ◌⊞◌ (times-comm g f) (times-comm h f)

  pub plus-times : (f g h : Series K) → (f ⊞ g) ⊠ h ≡ f ⊠ h ⊞ g ⊠ h
  unfolding plus
  plus-times f g h = fun_ext (add_at f g h)

  pub times-nought : (f : Series K) → f ⊠ nought F ≡ nought F
  times-nought f = times-comm f (nought F) ∙ fun_ext (nought-at f)

  pub times-unit : (f : Series K) → f ⊠ unit F ≡ f
  times-unit f = times-comm f (unit F) ∙ fun_ext (unit-at f)

  pub times-scale : (c : K) (f g : Series K) → f ⊠ scale F c g ≡ scale F c (f ⊠ g)
  unfolding scale
  times-scale c f g = times-comm f (scale F c g) ∙ fun_ext (scale_at c g f) ∙ ap (scale F c) (times-comm g f)

  pub unit-times : (f : Series K) → unit F ⊠ f ≡ f
  unit-times f = fun_ext (unit-at f)

  pub zero-scale : (f : Series K) → scale F 0# f ≡ nought F
  unfolding scale
  zero-scale f = fun_ext λ k. zero-mul L (f k)

  pub scale_back : (c : K) (f : Series K) → c ≢ 0# → scale F (F.inv c) (scale F c f) ≡ f
  unfolding scale
  scale_back c f h = fun_ext λ k. sym (mul_assoc (F.inv c) c (f k)) ∙ ap (λ w. w ⊗ f k) (mul_comm (F.inv c) c ∙ mul-inv c h) ∙ one-mul (f k)

  -- ---- c + z f

  pub starting_with-plus : (c d : K) (f g : Series K) → starting_with c f ⊞ starting_with d g ≡ starting_with (c ⊕ d) (f ⊞ g)
  unfolding starting_with plus
  starting_with-plus c d f g = fun_ext λ k. elim k as (λ k. (starting_with c f ⊞ starting_with d g) k ≡ starting_with (c ⊕ d) (f ⊞ g) k) [ zero ↦ refl | suc k ↦ refl ]

  pub starting_with-times : (c : K) (f g : Series K) → starting_with c f ⊠ g ≡ scale F c g ⊞ starting_with 0# (f ⊠ g)
  unfolding starting_with plus times scale
  starting_with-times c f g = fun_ext λ k. elim k as (λ k. (starting_with c f ⊠ g) k ≡ (scale F c g ⊞ starting_with 0# (f ⊠ g)) k) [ zero ↦ sym (add-zero L (c ⊗ g 0)) | suc k ↦ refl ]

  pub starting_with-scale : (c d : K) (f : Series K) → scale F c (starting_with d f) ≡ starting_with (c ⊗ d) (scale F c f)
  unfolding starting_with scale
  starting_with-scale c d f = fun_ext λ k. elim k as (λ k. scale F c (starting_with d f) k ≡ starting_with (c ⊗ d) (scale F c f) k) [ zero ↦ refl | suc k ↦ refl ]

  -- (c + z f)^2 = c^2 + z^2 f^2: the middle terms cancel
  pub starting_with-square : (c : K) (f : Series K) → starting_with c f ⊠ starting_with c f ≡ starting_with (c ⊗ c) (starting_with 0# (f ⊠ f))
  starting_with-square c f =
      starting_with-times c f (starting_with c f)
      ∙ ap₂ ◌⊞◌ (starting_with-scale c c f) (ap (starting_with 0#) (times-comm f (starting_with c f) ∙ starting_with-times c f f))
      ∙ starting_with-plus (c ⊗ c) 0# (scale F c f) (scale F c f ⊞ starting_with 0# (f ⊠ f))
      ∙ ap₂ (λ d g. starting_with d g) (add-zero L (c ⊗ c)) (plus-back (scale F c f) (starting_with 0# (f ⊠ f)))
