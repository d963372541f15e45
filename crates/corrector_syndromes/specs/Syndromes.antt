-- The odd syndromes: the values at a, a^3, .., a^15 of a remainder. At strength t the first t are those of the word.
-- Inner contracts alone cite it: what the corrector promises does not speak of it.
--   OddValues n s        s holds the values at a, a^3, .., a^15 of the polynomial with the binary digits of n
--   RowAdded s j r       r is s with those of x^j added;  ValuesAdded s n j r  with those of n x^j added
-- Assumes nothing.
use Rattle.std.specs.Prelude.{◌≡◌, List, ℕ, ◌<◌, get_or, length}
use Rattle.std.specs.Int.Bits.{bit_xor}
use Rattle.algebra.specs.Field.{power}
use Rattle.field.specs.Field.{field_at, mul}
use Rattle.corrector_code.specs.Digits.{value_of_digits}
use Rattle.corrector_code.specs.Eleven.{F11}
use Rattle.corrector_generator.specs.Generators.{odd_power}

-- r is s, with the values of n x^j added
pub record ValuesAdded (s : List ℕ) (n j : ℕ) (r : List ℕ) : Type 0 where
  pub long : length r ≡ 8
  pub value : (k : ℕ) → k < 8
      → get_or r k 0
      ≡ bit_xor (get_or s k 0)
      (mul (field_at 11) (power F11 (odd_power k) j) (value_of_digits (field_at 11) (odd_power k) n))

-- r is s, with the values of x^j added
pub record RowAdded (s : List ℕ) (j : ℕ) (r : List ℕ) : Type 0 where
  pub long : length r ≡ 8
  pub value : (k : ℕ) → k < 8 → get_or r k 0 ≡ bit_xor (get_or s k 0) (power F11 (odd_power k) j)

-- the values of the polynomial with the binary digits of n
pub record OddValues (n : ℕ) (s : List ℕ) : Type 0 where
  pub long : length s ≡ 8
  pub value : (k : ℕ) → k < 8 → get_or s k 0 ≡ value_of_digits (field_at 11) (odd_power k) n
