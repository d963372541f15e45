-- The remainder of a word at a strength, and how its digits are cut.
-- Inner contracts alone cite it: what corrector and encoder promise does not speak of remainders.
--   RestAt t W n        n fits 11 t digits, and has the values of W at a, a^3, .., a^(2t-1): THE CONTRACT of
--                       `remainder_of`
--   lessened n g x      n digits of x, from the highest down, cut by g, g/2, g/4, ..: each time the lesser of x and x
--                       with g added
-- Assumes nothing.
use Rattle.std.specs.Prelude.{◌≡◌, ℕ, zero, suc, ◌*◌, ◌/◌, ◌^◌, ◌<◌, min}
use Rattle.std.specs.Int.Bits.{bit_xor}
use Rattle.field.specs.Field.{field_at}
use Rattle.corrector_code.specs.Digits.{value_of_digits}
use Rattle.corrector_generator.specs.Generators.{odd_power}

-- fits 11 t digits, and has the values of W
pub record RestAt (t W n : ℕ) : Type 0 where
  pub below : n < 2 ^ (11 * t)
  pub values : (k : ℕ) → k < t → value_of_digits (field_at 11) (odd_power k) n ≡ value_of_digits (field_at 11) (odd_power k) W

-- n digits cut, each where x is then less
unfoldable pub lessened : ℕ → ℕ → ℕ → ℕ
lessened zero g x = x
lessened (suc n) g x = lessened n (g / 2) (min x (bit_xor x g))
