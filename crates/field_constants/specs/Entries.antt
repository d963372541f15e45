-- What is meant by folding.
--   folded y    y with the digits from 11 on folded back once: x^11 = x^2 + 1
-- Assumes nothing.
use Rattle.std.specs.Prelude.{ℕ, ◌*◌, ◌/◌, ◌%◌}
use Rattle.std.specs.Int.Bits.{bit_xor}

-- the digits from 11 on, folded back
unfoldable pub folded : ℕ → ℕ
folded y = bit_xor (bit_xor (y % 2048) (y / 2048)) (y / 2048 * 4)
