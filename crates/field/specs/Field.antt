-- The fields of 2^m elements. An element is a number below 2^m whose bits are the coefficients of a polynomial over
-- the two values 0 and 1, bit 0 the constant. The sum of two elements is `bit_xor`.
--   horner     Horner's rule over the binary digits of a number, the highest digit first
--   carry_free  the carry-free product: long multiplication of binary numbers with exclusive or in place of the sum
--   Field      a field: its degree m and its polynomial of that degree;  field_at m  the known field of degree m
--   size       2^m;  order  the number of nonzero elements
--   cut        y, with the field's polynomial added where y has the term x^m
--   reduce     the remainder by the field's polynomial
--   mul        the product: the carry-free product, reduced by the field's polynomial
--   inverse    the y with x y = 1, by trial; 0 where there is none
--   numbers    the operations as the theory of polynomials takes them: sum, product, inverse
--   G m        those of the known field of degree m;  roots_at m f  the roots of f there, by trial, ascending
--   multiplicities_at m f   beside each of these roots its multiplicity
--   Tr         the trace: the sum of x^(2^i) for i from 0 to m-1
--   position   the exponent of r: the j with a^j = r, by trial, where a is 2
-- Assumes nothing.
use Rattle.std.specs.Prelude.{List, ℕ, zero, suc, ◌+◌, ◌-◌, ◌*◌, ◌/◌, ◌%◌, ◌^◌, eqb}
use Rattle.std.specs.Int.Bits.{bit_xor}
use Rattle.algebra.specs.Field.{Ops, power, trace}
use Rattle.algebra.specs.Trial.{first_from}
use Rattle.algebra.specs.Polynomial.{roots_of}
use Rattle.algebra.specs.Multiplicity.{multiplicities_of}
use Rattle.field.specs.Rows.{poly_of}

-- `f` makes the result of what the higher digits gave and of the next digit; the count n of digits to go stops the
-- recursion
unfoldable pub horner_in : (ℕ → ℕ → ℕ) → ℕ → ℕ → ℕ
horner_in f zero a = zero
horner_in f (suc n) zero = zero
horner_in f (suc n) (suc a) = f (horner_in f n (suc a / 2)) (suc a % 2)

unfoldable pub horner : (ℕ → ℕ → ℕ) → ℕ → ℕ
unfolding horner_in
horner f a = horner_in f a a

unfoldable pub carry_free : ℕ → ℕ → ℕ
unfolding horner
carry_free a b = horner (λ r d. bit_xor (d * b) (r * 2)) a

pub record Field : Type 0 where
  pub degree : ℕ
  pub poly : ℕ

abbrev pub field_of : ℕ → ℕ → Field
field_of m p = record { degree = m; poly = p }

abbrev pub field_at : ℕ → Field
field_at m = field_of m (poly_of m)

abbrev pub size : Field → ℕ
size F = 2 ^ F.degree

abbrev pub order : Field → ℕ
order F = size F - 1

unfoldable pub cut : Field → ℕ → ℕ
cut F y = bit_xor (y / size F % 2 * F.poly) y

unfoldable pub reduce : Field → ℕ → ℕ
unfolding horner cut
reduce F x = horner (λ r d. cut F (r * 2 + d)) x

unfoldable pub mul : Field → ℕ → ℕ → ℕ
unfolding carry_free reduce
mul F a b = reduce F (carry_free a b)

-- trial past the last element gives 2^m, which is 0 modulo 2^m
unfoldable pub inverse : Field → ℕ → ℕ
inverse F x = first_from (λ y. eqb (mul F x y) 1) 0 (size F) % size F

abbrev pub numbers : Field → Ops ℕ
numbers F = record { zero = 0; one = 1; add = bit_xor; mul = mul F; inv = inverse F; is_zero = λ x. eqb x 0 }

-- the numbers below 2^m with the sum, product and inverse of the known field of degree m
abbrev pub G : ℕ → Ops ℕ
G m = numbers (field_at m)

abbrev pub roots_at : ℕ → List ℕ → List ℕ
roots_at m f = roots_of (G m) (2 ^ m) f

abbrev pub multiplicities_at : ℕ → List ℕ → List ℕ
multiplicities_at m f = multiplicities_of (G m) f (roots_at m f)

abbrev pub Tr : Field → ℕ → ℕ
Tr F x = trace (numbers F) F.degree x

unfoldable pub position : Field → ℕ → ℕ
position F r = first_from (λ j. eqb (power (numbers F) 2 j) r) 0 (order F)
