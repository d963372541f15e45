-- Words as numbers: bit j of a word is binary digit j.
-- Laws and inner contracts alone cite it: what the corrector promises does not rest on it.
--   bytes_number bytes      the number whose binary digits are the bits of the bytes, bit j in byte j div 8 at weight
--                          2^(j mod 8)
--   digits n W             the n lowest binary digits of W, as a word
--   value_of_digits F x W    the value at x of the polynomial with the binary digits of W
-- Assumes nothing.
use Rattle.std.specs.Prelude.{Bool, List, [], ◌∷◌, ℕ, zero, suc, ◌+◌, ◌*◌, ◌/◌, ◌%◌, eqb}
use Rattle.std.specs.Int.Bits.{bit_xor}
use Rattle.field.specs.Field.{Field, horner, mul}

-- bytes as one number, the first lowest
unfoldable pub bytes_number : List ℕ → ℕ
bytes_number [] = 0
bytes_number (b ∷ bs) = bytes_number bs * 256 + b

-- the n lowest binary digits
unfoldable pub digits : ℕ → ℕ → List Bool
digits zero W = []
digits (suc n) W = eqb (W % 2) 1 ∷ digits n (W / 2)

-- the value at x of the polynomial with the digits of W
unfoldable pub value_of_digits : Field → ℕ → ℕ → ℕ
unfolding horner
value_of_digits F x W = horner (λ r d. bit_xor d (mul F x r)) W
