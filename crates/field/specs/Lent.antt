-- What is lent of a field.
--   Lent   the degree is known, and the two lists are the field's log and antilog tables
-- Assumes nothing.
use Rattle.std.specs.Prelude.{◌≡◌, true, List, ℕ}
use Rattle.field.specs.Rows.{known}
use Rattle.field.specs.Field.{field_at}
use Rattle.field.specs.Tables.{Logs, Antilogs}

pub record Lent (m : ℕ) (ls ts : List ℕ) : Type 0 where
  pub degree : known m ≡ true
  pub logs : Logs (field_at m) ls
  pub antilogs : Antilogs (field_at m) ts
