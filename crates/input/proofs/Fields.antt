-- What is asked of a field, and that each known field has it.
--   BinaryField     the numbers below 2^m, with exclusive or for the sum, in which the first m powers of a are 1, 2,
--                   4, ..
--   known-field     each known field, with a = 2
--   degree-within   its degree is at most that of the widest
--   level-below     a^i is an element
-- Assumes nothing.
use mathlib.Core.Path.{◌≡◌, refl}
use mathlib.Core.Bool.{true}
use Prim.Native.Nat.{ℕ, ◌^◌, ◌≤◌, ◌<◌}
use native.Mathlib.Omega.{arith}
use lib.Bits.{bit_xor}
use Rattle.algebra.specs.Field.{Ops, OnNumbers, power, squared}
use Rattle.algebra.proofs.StaysBelow.{power_below}
use Rattle.field.specs.Rows.{known, ListedRow, poly_of}
use Rattle.field.proofs.Known.{by_row, listed}
use Rattle.field.specs.Field.{field_at, G}
use Rattle.field.proofs.Generator.{Generated, generated, small}
use Rattle.field.proofs.Instance.{on-numbers, squared-size}
use Rattle.field.proofs.Trace.{power-low}
use Rattle.input.specs.Limit.{widest}

-- what is asked
pub record BinaryField (G : Ops ℕ) (m a : ℕ) : Type 0 where
  pub numbers : OnNumbers G (2 ^ m)
  pub positive : 0 < m
  pub zero_is : G.zero ≡ 0
  pub add_is : (x y : ℕ) → G.add x y ≡ bit_xor x y
  pub fermat : (x : ℕ) → x < 2 ^ m → squared G m x ≡ x
  pub small : a < 2 ^ m
  pub power-is : (i : ℕ) → i < m → power G a i ≡ 2 ^ i

-- each row has it
pub known-field : (m : ℕ) → known m ≡ true → BinaryField (G m) m 2
known-field m k =
    let l : ListedRow m (poly_of m) = listed m k in
    let gen : Generated (field_at m) = generated l in
    record {
      numbers = on-numbers (field_at m) gen;
      positive = (small l).degree-pos;
      zero_is = refl;
      add_is = λ x y. refl;
      fermat = squared-size (field_at m) gen;
      small = gen.two;
      power-is = power-low (field_at m) gen;
    }

-- a known degree is at most the widest
pub degree-within : (m : ℕ) → known m ≡ true → m ≤ widest
degree-within m k = by_row (λ n p. n ≤ widest) (omega arith) (omega arith) (omega arith) (listed m k)

-- a^i is an element
pub level-below : {G : Ops ℕ} {m a : ℕ} → BinaryField G m a → (i : ℕ) → power G a i < 2 ^ m
level-below {a = a} B i = power_below B.numbers a i B.small
