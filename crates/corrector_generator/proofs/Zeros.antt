-- The generator of strength t has degree 11 t and is zero at a, a^3, .., a^(2t-1): one computed test of all eight.
-- So a number and its remainder have the same values there.
--   generator-top    its highest digit is digit 11 t
--   generator-zero   where it is zero
--   rest_below       a remainder by it fits 11 t digits
--   rest-values      and has the values of what it is the remainder of
-- Assumes nothing.
use mathlib.Core.Path.{◌≡◌, sym, subst}
use mathlib.Core.Logic.{⊎_elim}
use mathlib.Core.Bool.{Bool, true}
use Prim.Native.Nat.{ℕ, zero, suc, ◌-◌, ◌*◌, ◌/◌, ◌^◌, ◌≤◌, ◌<◌}
use native.Mathlib.Nat.{eq-or-lt_of_le, not-suc-le-zero}
use native.Mathlib.Omega.{arith}
use lib.Dec.{T, eqb, eqb→eq}
use Rattle.algebra.specs.Field.{power}
use Rattle.field.specs.Rows.{poly_in}
use Rattle.field.specs.Field.{field_at, horner, cut, reduce, mul, carry_free}
use Rattle.field.proofs.Reduce.{reduce-lt}
use Rattle.field.proofs.Table.{both_true, both_true-left, both_true-right}
use Rattle.field.proofs.Generator.{one_below}
use Rattle.corrector_code.specs.Digits.{value_of_digits}
use Rattle.corrector_code.proofs.Eleven.{gen11}
use Rattle.corrector_code.proofs.Values.{value_of_digits-reduce}
use Rattle.corrector_generator.specs.Generators.{generator_of, generator_at, odd_power}

-- a test of 0 to n - 1
every : (ℕ → Bool) → ℕ → Bool
every f zero = true
every f (suc n) = both_true (f n) (every f n)

every-at : (f : ℕ → Bool) (n k : ℕ) → T (every f n) → k < n → T (f k)
unfolding every
every-at f zero k t h = absurd (not-suc-le-zero h)
every-at f (suc n) k t h =
    ⊎_elim (λ e. let i : n ≡ k = omega (arith, e) in subst (λ (j : ℕ). T (f j)) i (both_true-left (f n) (every f n) t))
    (λ e. every-at f n k (both_true-right (f n) (every f n) t) (omega arith)) (eq-or-lt_of_le h)

-- the generator of strength t has degree 11 t
top_at : ℕ → Bool
top_at t = eqb (generator_of t / 2 ^ (11 * t)) 1

-- and is zero at a^(2k+1)
zero_at : ℕ → ℕ → Bool
zero_at t k = eqb (value_of_digits (field_at 11) (odd_power k) (generator_of t)) 0

right : ℕ → Bool
right k = both_true (top_at (suc k)) (every (zero_at (suc k)) (suc k))

all_right : T (every right 8)
unfolding every right top_at zero_at generator_of value_of_digits horner mul carry_free reduce cut power odd_power poly_in
all_right = tt

module _ (t : ℕ) (least : 1 ≤ t) (most : t ≤ 8) where
  right-at : T (both_true (top_at t) (every (zero_at t) t))
  unfolding right
  right-at =
      let e : suc (t - 1) ≡ t = omega arith in
      subst (λ (m : ℕ). T (both_true (top_at m) (every (zero_at m) m))) e (every-at right 8 (t - 1) all_right (omega arith))

  pub generator-top : generator_of t / 2 ^ (11 * t) ≡ 1
  unfolding top_at
  generator-top =
      eqb→eq (generator_of t / 2 ^ (11 * t)) 1 (both_true-left (top_at t) (every (zero_at t) t) right-at)

  pub generator-zero : (k : ℕ) → k < t → value_of_digits (field_at 11) (odd_power k) (generator_of t) ≡ 0
  unfolding zero_at
  generator-zero k h =
      eqb→eq (value_of_digits (field_at 11) (odd_power k) (generator_of t)) 0
      (every-at (zero_at t) t k (both_true-right (top_at t) (every (zero_at t) t) right-at) h)

  -- a remainder fits 11 t digits
  pub rest_below : {n : ℕ} (W : ℕ) → n ≡ reduce (generator_at t) W → n < 2 ^ (11 * t)
  rest_below W e = subst (λ (n : ℕ). n < 2 ^ (11 * t)) (sym e) (reduce-lt (generator_at t) generator-top W)

  -- A REMAINDER HAS THE VALUES OF WHAT IT IS THE REMAINDER OF
  pub rest-values : (W k : ℕ) → k < t
      → value_of_digits (field_at 11) (odd_power k) (reduce (generator_at t) W) ≡ value_of_digits (field_at 11) (odd_power k) W
  rest-values W k h =
      value_of_digits-reduce (field_at 11) gen11.monic (one_below (field_at 11) gen11) (odd_power k) (generator_at t)
      (generator-zero k h) W
