-- Squares and their sums modulo a monic polynomial, whose degree is at most the limit.
--   Started     bz modulo p and the row of p are written
-- Tr(bz) = bz + b^2 z^2 + b^4 z^4 + .. needs the powers of z once, whatever b is:
--   power_rows   the rows of w, w^2, w^4, .. , k of them, modulo monic p, one behind the other
--   trace_sum    b w0 + b^2 w1 + b^4 w2 + .. , k terms, where the rows of n places each, one behind the other, hold w0,
--               w1, w2, ..
--   Saved       w was squared k times: it is the last power, and the front of rows holds the others
-- Assumes nothing.
use Rattle.std.specs.Prelude.{◌≡◌, List, [], ◌∷◌, ◌++◌, map, ℕ, zero, suc, ◌*◌, length, take, drop}
use Rattle.algebra.specs.Polynomial.{add}
use Rattle.algebra.specs.Routines.{rem, square, frobenius_mod}
use Rattle.field.specs.Field.{G}
use Rattle.poly.specs.Lent.{log_row, held}

-- the first power
pub record Started (m : ℕ) (p : List ℕ) (b : ℕ) (row w : List ℕ) : Type 0 where
  pub row_is : row ≡ log_row m p
  pub low : w ≡ rem (G m) p (0 ∷ b ∷ [])

-- ---- the powers of z once, and a trace sum for each b

unfoldable pub power_rows : ℕ → List ℕ → ℕ → List ℕ → List ℕ
power_rows m p zero w = []
power_rows m p (suc k) w = log_row m w ++ power_rows m p k (rem (G m) p (square (G m) w))

unfoldable pub trace_sum : ℕ → ℕ → ℕ → ℕ → List ℕ → List ℕ
trace_sum m n zero b rows = []
trace_sum m n (suc k) b rows =
    add (G m) (map ((G m).mul b) (held m (take n rows))) (trace_sum m n k ((G m).mul b b) (drop n rows))

-- the last power, and the rows before it
pub record Saved (m : ℕ) (p : List ℕ) (k : ℕ) (w w' rows : List ℕ) : Type 0 where
  pub power : w' ≡ frobenius_mod (G m) p k w
  pub rows_are : take (k * length p) rows ≡ power_rows m p k w
