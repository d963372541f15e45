-- A field's tables serve every name of the field.
--   logs_at, antilogs-at, halves-at    a table of the field of degree n is the table for m, where m is n
-- Assumes nothing.
use mathlib.Core.Path.{◌≡◌, sym, subst}
use mathlib.Core.List.{List}
use Prim.Native.Nat.{ℕ}
use Rattle.field.specs.Field.{field_at}
use Rattle.field.specs.Tables.{Logs, Antilogs, Halves}

module _ {m n : ℕ} (e : m ≡ n) {l : List ℕ} where
  pub logs_at : Logs (field_at n) l → Logs (field_at m) l
  logs_at = subst (λ (i : ℕ). Logs (field_at i) l) (sym e)

  pub antilogs-at : Antilogs (field_at n) l → Antilogs (field_at m) l
  antilogs-at = subst (λ (i : ℕ). Antilogs (field_at i) l) (sym e)

  pub halves-at : Halves (field_at n) l → Halves (field_at m) l
  halves-at = subst (λ (i : ℕ). Halves (field_at i) l) (sym e)
