-- The bytes of a number, added to those of a word.
-- Inner contracts alone cite it: what the encoder promises does not speak of it.
--   add_bytes n q x w    the bytes w, with the n lowest bytes of x added to those from q on
-- Assumes nothing.
use Rattle.std.specs.Prelude.{List, ℕ, zero, suc, ◌/◌, ◌%◌, get_or, set}
use Rattle.std.specs.Int.Bits.{bit_xor}

-- n bytes of x added, from byte q on
unfoldable pub add_bytes : ℕ → ℕ → ℕ → List ℕ → List ℕ
add_bytes zero q x w = w
add_bytes (suc n) q x w = add_bytes n (suc q) (x / 256) (set w q (bit_xor (get_or w q 0) (x % 256)))
