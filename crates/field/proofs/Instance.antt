-- Each known field is a field of characteristic 2 on the numbers below 2^m: the laws that the theory of polynomials
-- takes, once over the width.
--   on-numbers       the laws, for any field that passes the test of its generator;  known-numbers  for each known
--                    field
--   squared-size     x^(2^m) = x, by m squarings
--   power-low        below the degree, a power of 2 in the field is the number 2^i
-- Assumes nothing.
use mathlib.Core.Path.{◌≡◌, refl, sym, ◌∙◌, subst}
use Prim.Native.Nat.{ℕ, ◌^◌, ◌<◌}
use native.Mathlib.Omega.{arith}
use lib.Bits.{xor_comm, xor_self, xor_lt}
use lib.Dec.{T, eqb, eqb→eq}
use lib.Pow.{pow_pos}
use Rattle.algebra.specs.Field.{OnNumbers, squared}
use Rattle.field.specs.Rows.{ListedRow}
use Rattle.field.specs.Field.{Field, size, numbers, field_of}
use Rattle.field.proofs.Xor.{xor_assoc}
use Rattle.field.proofs.Ring.{ring}
use Rattle.field.proofs.Generator.{Generated, generated, one_below, inverse-lt, mul-inverse, power_size}
use Rattle.field.proofs.Trace.{squared-power}

module _ (F : Field) (gen : Generated F) where
  open ring F gen.monic use {mul_comm, mul_assoc, mul-xor-r, mul-one-l, mul-lt}

  pub on-numbers : OnNumbers (numbers F) (size F)
  on-numbers =
      record {
        zero-below = pow_pos F.degree;
        one_below = one_below F gen;
        add-below = λ x y h k. xor_lt F.degree x y h k;
        mul-below = λ x y h k. mul-lt x y;
        inv-below = λ x h. inverse-lt F gen x;
        add_comm = λ x y h k. xor_comm x y;
        add_assoc = λ x y z h k l. xor_assoc x y z;
        zero-add = λ x h. refl;
        add-self = λ x h. xor_self x;
        mul_comm = λ x y h k. mul_comm x y;
        mul_assoc = λ x y z h k l. mul_assoc x y z;
        one-mul = λ x h. mul-one-l x h;
        mul-add = λ x y z h k l. mul-xor-r x y z;
        mul-inv = λ x h n. mul-inverse F gen x (omega arith) h;
        one≢zero = omega arith;
        zero_test = λ x h. (eqb→eq x 0, λ e. subst (λ y. T (eqb y 0)) (sym e) tt);
      }

  pub squared-size : (x : ℕ) → x < size F → squared (numbers F) F.degree x ≡ x
  squared-size x h = squared-power F gen F.degree x h ∙ power_size F gen x h

pub known-numbers : {m p : ℕ} → ListedRow m p → OnNumbers (numbers (field_of m p)) (2 ^ m)
known-numbers {m} {p} l = on-numbers (field_of m p) (generated l)
