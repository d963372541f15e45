-- The definitions compute: in the field of 16 elements, the product over 1, 2, 3, its roots found again, and its split
-- by Tr(4 z).
--   G16              the field of 16 elements, by its own product and inverse
--   product_is       (z + 1)(z + 2)(z + 3) is z^3 + 7 z + 6;  roots-are  its roots
--   split-gcd        its greatest common divisor with Tr(4 z);  split-modulo  with that modulo
--                    it;  split-cofactor  the rest
-- Assumes nothing.
use mathlib.Core.Path.{◌≡◌, refl}
use mathlib.Core.Bool.{cond}
use mathlib.Core.List.{[], ◌∷◌}
use Prim.Native.Nat.{◌%◌, ◌*◌, ◌/◌, suc, zero, ℕ}
use lib.Bits.{bit_xor}
use lib.Dec.{eqb, ltb}
use Rattle.algebra.specs.Field.{Ops}
use Rattle.algebra.specs.Trial.{up_from}
use Rattle.algebra.specs.Polynomial.{add, eval, from_roots, mul, roots_of, trace_of, trace_poly}
use Rattle.algebra.specs.Routines.{cofactor, quotient_digit, euclid, gcd, monic_roots, norm, quo, rem, shift_in, square, trace_mod}

-- the product, by Horner's rule on the bits of the second factor
double : ℕ → ℕ
double x = cond (ltb x 8) (2 * x) (bit_xor (2 * x) 19)

product : ℕ → ℕ → ℕ → ℕ
unfolding double
product zero x y = 0
product (suc n) x y = bit_xor (cond (eqb (y % 2) 1) x 0) (double (product n x (y / 2)))

inverse : ℕ → ℕ
unfolding product
inverse x = go 14
  where
    go : ℕ → ℕ
    go zero = 1
    go (suc n) = product 4 x (go n)

abbrev G16 : Ops ℕ
unfolding product inverse
G16 = record { zero = 0; one = 1; add = bit_xor; mul = product 4; inv = inverse; is_zero = λ x. eqb x 0 }

-- (z + 1)(z + 2)(z + 3) = z^3 + 7 z + 6
product_is : monic_roots G16 (1 ∷ 2 ∷ 3 ∷ []) ≡ 6 ∷ 7 ∷ 0 ∷ []
unfolding G16 monic_roots from_roots mul add
product_is = refl

roots-are : roots_of G16 16 (6 ∷ 7 ∷ 0 ∷ 1 ∷ []) ≡ 1 ∷ 2 ∷ 3 ∷ []
unfolding G16 roots_of eval up_from
roots-are = refl

-- Tr(4 z) is 0 at 1 alone
split-gcd : gcd G16 (6 ∷ 7 ∷ 0 ∷ []) (trace_of G16 4 4) ≡ 1 ∷ []
unfolding G16 trace_poly mul add gcd euclid norm rem shift_in quotient_digit
split-gcd = refl

split-modulo : gcd G16 (6 ∷ 7 ∷ 0 ∷ []) (trace_mod G16 (6 ∷ 7 ∷ 0 ∷ []) 4 (rem G16 (6 ∷ 7 ∷ 0 ∷ []) (0 ∷ 4 ∷ []))) ≡ 1 ∷ []
unfolding G16 trace_mod square add gcd euclid norm rem shift_in quotient_digit
split-modulo = refl

split-cofactor : cofactor G16 (6 ∷ 7 ∷ 0 ∷ []) (1 ∷ []) ≡ 6 ∷ 1 ∷ []
unfolding G16 cofactor quo rem shift_in quotient_digit add
split-cofactor = refl
