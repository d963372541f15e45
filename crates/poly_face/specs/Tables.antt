-- The tables of a field in lent room.
--   Roomy    the degree is known, and there is room for its tables
--   LentIn   its tables stand at the front of the rooms, which are as long as they were
-- Assumes nothing.
use Rattle.std.specs.Prelude.{◌≡◌, true, List, ℕ, ◌*◌, ◌-◌, ◌^◌, ◌≤◌, length, take}
use Rattle.field.specs.Rows.{known}
use Rattle.poly.specs.Lent.{Lent}

pub record Roomy (m : ℕ) (ls ts : List ℕ) : Type 0 where
  pub degree : known m ≡ true
  pub logs : 2 ^ m ≤ length ls
  pub antilogs : 4 * (2 ^ m - 1) ≤ length ts

pub record LentIn (m : ℕ) (ls ts ls' ts' : List ℕ) : Type 0 where
  pub tables : Lent m (take (2 ^ m) ls') (take (4 * (2 ^ m - 1)) ts')
  pub long-logs : length ls' ≡ length ls
  pub long-antilogs : length ts' ≡ length ts
