-- What the constant tables hold.
--   HalfRoot    the quadratic table at i: the even j with j^2 + j = i, or 65535 where Tr(i) = 1
--   log_of       the log table at x: twice its position, an even number; 1 at 0
--   antilog_of   the antilog table at j: a^(j/2) where j is even, and 0 where it is odd
--   Halves      a list is the quadratic table;  Logs  the log table;  Antilogs  the antilog table, for sums of two
--               logs
-- The log of 0 makes a sum odd, so the zeros of the antilog table stand between the powers and in no run: the compiler
-- copies the table as it is, and would clear a run of zeros first.
-- Assumes nothing.
use Rattle.std.specs.Prelude.{◌≡◌, ◌⊎◌, cond, List, ℕ, ◌*◌, ◌/◌, ◌%◌, ◌<◌, eqb, length, get_or}
use Rattle.std.specs.Int.Bits.{bit_xor}
use Rattle.algebra.specs.Field.{power}
use Rattle.field.specs.Field.{Field, size, order, mul, numbers, Tr, position}

abbrev pub HalfRoot : Field → ℕ → ℕ → Type 0
HalfRoot F i j = ((Tr F i ≡ 1) × (j ≡ 65535)) ⊎ ((j < size F) × (j % 2 ≡ 0) × (bit_xor (mul F j j) j ≡ i))

unfoldable pub log_of : Field → ℕ → ℕ
log_of F x = cond (eqb x 0) 1 (2 * position F x)

unfoldable pub antilog_of : Field → ℕ → ℕ
antilog_of F j = cond (eqb (j % 2) 0) (power (numbers F) 2 (j / 2)) 0

pub record Halves (F : Field) (halves : List ℕ) : Type 0 where
  pub entries : length halves ≡ size F
  pub entry : (i : ℕ) → i < size F → HalfRoot F i (get_or halves i 0)

pub record Logs (F : Field) (logs : List ℕ) : Type 0 where
  pub entries : length logs ≡ size F
  pub entry : (x : ℕ) → x < size F → get_or logs x 0 ≡ log_of F x

pub record Antilogs (F : Field) (antilogs : List ℕ) : Type 0 where
  pub entries : length antilogs ≡ 4 * order F
  pub entry : (j : ℕ) → j < 4 * order F → get_or antilogs j 0 ≡ antilog_of F j
