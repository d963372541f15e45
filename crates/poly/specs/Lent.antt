-- What the routines are lent, and how they hold a polynomial to divide by.
--   Lent    the degree is known, and the two lists are the field's log and antilog tables
--   IsLog   x is the log of an element: of the one that the antilog of x is
--   LogRow     a list of logs of elements
--   log_row  the row of a polynomial: the log of each coefficient
--   held    the polynomial that a row holds: the antilog of each log
-- Assumes nothing.
use Rattle.std.specs.Prelude.{◌≡◌, List, map, ℕ, ◌<◌, length, get_or}
use Rattle.field.specs.Field.{field_at}
use Rattle.field.specs.Tables.{log_of, antilog_of}
-- the tables
pub use Rattle.field.specs.Lent.{Lent}

-- one log
abbrev pub IsLog : ℕ → ℕ → Type 0
IsLog m x = log_of (field_at m) (antilog_of (field_at m) x) ≡ x

-- a list of them
pub record LogRow (m : ℕ) (row : List ℕ) : Type 0 where
  pub entry : (i : ℕ) → i < length row → IsLog m (get_or row i 0)

-- from the polynomial to the row
abbrev pub log_row : ℕ → List ℕ → List ℕ
log_row m p = map (log_of (field_at m)) p

-- and back
abbrev pub held : ℕ → List ℕ → List ℕ
held m row = map (antilog_of (field_at m)) row
