-- Positions under the two conventions: mirror images of each other, and under 1 the position of the inverse under 0.
--   goppa, recorder               what each convention gives
--   mirrored-sum                  a place and its mirror image among n places add up to 0 or n
--   mirror-image                  the positions under 0 and 1 add up to 0 modulo the order
--   of-inverse                    the position of r under 1 is that of 1/r under 0
--   goppa-place, recorder-place   the root of z + X is at X's place under 0, that of 1 + X z under 1
-- Assumes nothing.
use mathlib.Core.Path.{◌≡◌, sym, ap, ◌∙◌}
use mathlib.Core.Bool.{cond}
use mathlib.Core.Logic.{◌⊎◌, inl, inr}
use Prim.Native.Nat.{ℕ, ◌+◌, ◌-◌, ◌%◌, ◌<◌}
use native.Mathlib.Nat.{mod-eq_of_lt, mod_self, zero-mod, mod-lt}
use native.Mathlib.Decide.{dec_lt}
use native.Mathlib.Omega.{arith}
use borrow.Author.Tests.{eq-eqb, ne_eqb}
use Rattle.algebra.specs.Field.{power}
use Rattle.field.specs.Field.{Field, size, order, mul, inverse, position, numbers}
use Rattle.field.proofs.Ring.{power-add, power-lt}
use Rattle.field.proofs.Generator.{Generated, one_below, power-order, position-is, position-only, inverse-only}
use Rattle.field_elements.specs.Calls.{position_under}

-- the exponent itself under 0
pub goppa : (F : Field) (r v : ℕ) → v ≡ 0 → position_under v F r ≡ position F r
unfolding position_under
goppa F r v h = ap (λ b. cond b (position F r) ((order F - position F r) % order F)) (eq-eqb v 0 h)

-- mirrored under any other
pub recorder : (F : Field) (r v : ℕ) → (v ≡ 0 → ⊥) → position_under v F r ≡ (order F - position F r) % order F
unfolding position_under
recorder F r v h = ap (λ b. cond b (position F r) ((order F - position F r) % order F)) (ne_eqb v 0 h)

-- a place j and its mirror image among n places
mirrored-sum : (n j : ℕ) → j < n → (j + (n - j) % n ≡ 0) ⊎ (j + (n - j) % n ≡ n)
mirrored-sum n j h = go (dec_lt 0 j)
  where
    go : Dec (0 < j) → (j + (n - j) % n ≡ 0) ⊎ (j + (n - j) % n ≡ n)
    go (yes p) = let e : (n - j) % n ≡ n - j = mod-eq_of_lt (omega arith) in inr (omega arith)
    go (no p) =
        let z : n - j ≡ n = omega arith in
        let e : (n - j) % n ≡ 0 = ap (λ (k : ℕ). k % n) z ∙ mod_self n in
        inl (omega arith)

module _ (F : Field) (gen : Generated F) where
  pub mirror-image : (r : ℕ) → 0 < r → r < size F → (position_under 0 F r + position_under 1 F r) % order F ≡ 0
  unfolding position_under
  mirror-image r h s = go (mirrored-sum (order F) j (position-is F gen r h s).0)
    where
      j : ℕ
      j = position F r

      go : (j + (order F - j) % order F ≡ 0) ⊎ (j + (order F - j) % order F ≡ order F)
          → (j + (order F - j) % order F) % order F ≡ 0
      go (inl e) = ap (λ (n : ℕ). n % order F) e ∙ zero-mod (order F)
      go (inr e) = ap (λ (n : ℕ). n % order F) e ∙ mod_self (order F)

  pub of-inverse : (r : ℕ) → 0 < r → r < size F → position_under 1 F r ≡ position_under 0 F (inverse F r)
  unfolding position_under power
  of-inverse r h s = sym (position-only F gen (inverse F r) i below (sym (inverse-only F gen r (x i) h s (x_lt i) one)))
    where
      -- the powers of 2, the exponent j of r, and its mirror image i
      x : ℕ → ℕ
      x = power (numbers F) 2

      x_lt : (n : ℕ) → x n < size F
      x_lt = power-lt F gen.monic (one_below F gen) 2

      j : ℕ
      j = position F r

      i : ℕ
      i = (order F - j) % order F

      below : i < order F
      below = mod-lt (order F - j) (let t = gen.two in omega arith)

      k : (j < order F) × (x j ≡ r)
      k = position-is F gen r h s

      total : (j + i ≡ 0) ⊎ (j + i ≡ order F) → x (j + i) ≡ 1
      total (inl e) = ap x e
      total (inr e) = ap x e ∙ power-order F gen

      one : mul F r (x i) ≡ 1
      one =
          ap (λ (y : ℕ). mul F y (x i)) (sym k.1) ∙ sym (power-add F gen.monic (one_below F gen) 2 j i)
          ∙ total (mirrored-sum (order F) j k.0)

  -- with X = 2^j: the root of z + X is X
  pub goppa-place : (r j : ℕ) → j < order F → power (numbers F) 2 j ≡ r → position_under 0 F r ≡ j
  unfolding position_under
  goppa-place r j l e = position-only F gen r j l e

  -- and the root of 1 + X z is the r with r X = 1
  pub recorder-place : (r j : ℕ) → 0 < r → r < size F → j < order F → mul F r (power (numbers F) 2 j) ≡ 1
      → position_under 1 F r ≡ j
  recorder-place r j h s l e =
      let i = inverse-only F gen r (power (numbers F) 2 j) h s (power-lt F gen.monic (one_below F gen) 2 j) e in
      of-inverse r h s ∙ goppa-place (inverse F r) j l (sym i)
