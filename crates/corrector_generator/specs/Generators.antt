-- The generators of the strengths 1 to 8, and the remainders of what leaves a register at the top.
-- Inner contracts alone cite it: what corrector and encoder promise does not speak of generators.
--   generator_of t     the generator of strength t as a number, its binary digits the coefficients
--   generator_at t     the same with its degree, 11 t
--   back_from_top G t   the remainder by G of t x^d, d its degree
--   odd_power k        a^(2k+1): the generator of strength t is zero at those with k below t
-- Assumes nothing.
use Rattle.std.specs.Prelude.{ℕ, suc, ◌-◌, ◌*◌, get_or}
use Rattle.algebra.specs.Field.{power}
use Rattle.field.specs.Field.{Field, field_of, reduce, size}
use Rattle.corrector_code.specs.Eleven.{F11}
use Rattle.corrector_generator.specs.Polynomials.{polynomials}

-- the generator of strength t, as a number
unfoldable pub generator_of : ℕ → ℕ
generator_of t = get_or polynomials (t - 1) 0

-- degree and polynomial
abbrev pub generator_at : ℕ → Field
generator_at t = field_of (11 * t) (generator_of t)

-- the remainder of t x^d
unfoldable pub back_from_top : Field → ℕ → ℕ
back_from_top G t = reduce G (t * size G)

-- a^(2k+1)
unfoldable pub odd_power : ℕ → ℕ
odd_power k = power F11 2 (suc (2 * k))
