-- Powers by repeated squaring.
--   turned      one turn: x times c, squared
--   raised_by    so many turns. In a field of 2^m elements m - 1 of them make the square root of x, divided by c
--   linear_map   the sum of the entries b_i over the binary digits i of x that are 1
--   Squares     a row has at i what a turn makes of 2^i, for each digit of an element
-- Assumes nothing.
use Rattle.std.specs.Prelude.{◌≡◌, List, [], ◌∷◌, ℕ, zero, suc, ◌*◌, ◌/◌, ◌%◌, ◌^◌, ◌<◌, get_or}
use Rattle.std.specs.Int.Bits.{bit_xor}
use Rattle.field.specs.Field.{Field, mul}

unfoldable pub turned : Field → ℕ → ℕ → ℕ
turned F c x = mul F (mul F c x) (mul F c x)

unfoldable pub raised_by : Field → ℕ → ℕ → ℕ → ℕ
raised_by F c zero x = x
raised_by F c (suc n) x = raised_by F c n (turned F c x)

unfoldable pub linear_map : List ℕ → ℕ → ℕ
linear_map [] x = 0
linear_map (b ∷ bs) x = bit_xor (x % 2 * b) (linear_map bs (x / 2))

pub record Squares (F : Field) (c : ℕ) (row : List ℕ) : Type 0 where
  pub entry : (i : ℕ) → i < F.degree → get_or row i 0 ≡ turned F c (2 ^ i)
