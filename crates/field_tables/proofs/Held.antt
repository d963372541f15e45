-- What the tables of field 11 hold, each by one computed test over its entries.
--   log_at, antilog_at, half_at             the entry at a place
--   logs-tested, antilogs-tested, halves-tested   they are the tables of the field
-- Assumes nothing.
use Prim.Native.Nat.{ℕ}
use lib.ListN.{get_or}
use Rattle.field.specs.Rows.{poly_in}
use Rattle.field.specs.Field.{field_at}
use Rattle.field.specs.Tables.{Halves, Logs, Antilogs}
use Rattle.field.proofs.Known.{row11}
use Rattle.field.proofs.Generator.{generated}
use Rattle.field.proofs.Logarithms.{log_test, logs-hold, antilog_test, antilogs-hold}
use Rattle.field.proofs.HalfRoots.{half_roots, halves-hold}
use Rattle.field_tables.specs.declared.logtables.TheConstants.{LOG11}
use Rattle.field_tables.specs.declared.antilogs.TheConstants.{ANTILOG11}
use Rattle.field_tables.specs.declared.halves.TheConstants.{HALF11}

unfoldable pub log_at : ℕ → ℕ
log_at x = get_or LOG11 x 0

unfoldable pub antilog_at : ℕ → ℕ
antilog_at j = get_or ANTILOG11 j 0

unfoldable pub half_at : ℕ → ℕ
half_at i = get_or HALF11 i 0

pub logs-tested : Logs (field_at 11) LOG11
unfolding poly_in log_test
logs-tested = logs-hold _ (generated row11) LOG11 tt

pub antilogs-tested : Antilogs (field_at 11) ANTILOG11
unfolding poly_in antilog_test
antilogs-tested = antilogs-hold _ (generated row11) ANTILOG11 tt

pub halves-tested : Halves (field_at 11) HALF11
unfolding poly_in half_roots
halves-tested = halves-hold _ (generated row11) HALF11 tt
