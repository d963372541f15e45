-- Tables that were copied to the front of lent room stand there, whole.
--   front      what holds of a table holds of the front of the room that it is copied to
--   room_for   room enough for a degree is enough for its tables
--   lent-in    copied there, they are lent
-- Assumes nothing.
use mathlib.Core.Path.{◌≡◌, sym, ap, ◌∙◌, subst}
use mathlib.Core.List.{List}
use Prim.Native.Nat.{ℕ, ◌≤◌}
use lib.ListN.{length, take}
use Rattle.slices.specs.Lists.{copied}
use Rattle.slices.proofs.Lists.{copied-front, length-copied}
use Rattle.field.specs.Field.{field_at}
use Rattle.field.specs.Tables.{Logs, Antilogs}
use Rattle.poly.specs.Lent.{Lent}
use Rattle.poly_face.specs.Tables.{Roomy, LentIn}

-- what holds of a table of n entries holds of the front of the room that it is copied to
front : (P : List ℕ → Type 0) {n : ℕ} {table exit : List ℕ} (room : List ℕ) → length table ≡ n → P table → exit ≡ copied table room → P (take n exit)
front P {n} {table} room e h x = subst P (sym (ap (take n) x ∙ copied-front table room e)) h

module _ {m : ℕ} {ls ts logs antilogs : List ℕ} (g : Lent m ls ts × Roomy m logs antilogs) where
  -- they fit
  room_for : (length ls ≤ length logs) × (length ts ≤ length antilogs)
  room_for = (
    subst (λ (k : ℕ). k ≤ length logs) (sym g.0.logs.entries) g.1.logs,
    subst (λ (k : ℕ). k ≤ length antilogs) (sym g.0.antilogs.entries) g.1.antilogs,
  )

  -- copied there, they stand at the front, and the rooms are as long as they were
  pub lent-in : {logs' antilogs' : List ℕ} → (logs' ≡ copied ls logs) × (antilogs' ≡ copied ts antilogs) → LentIn m logs antilogs logs' antilogs'
  lent-in x = record {
    tables = record {
      degree = g.1.degree;
      logs = front (Logs (field_at m)) logs g.0.logs.entries g.0.logs x.0;
      antilogs = front (Antilogs (field_at m)) antilogs g.0.antilogs.entries g.0.antilogs x.1;
    };
    long-logs = ap length x.0 ∙ length-copied ls logs room_for.0;
    long-antilogs = ap length x.1 ∙ length-copied ts antilogs room_for.1;
  }
