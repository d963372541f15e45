-- Each table in place is the table of crate field (crate field_tables, proofs/Held, has what they hold).
--   log_is        the log at each element;  antilog-is  the antilog at each sum of two logs;  half_is  the half-root
--   LOGS-AGREE, ANTILOGS-AGREE, HALVES-AGREE   a table that is lent holds the same numbers
-- Assumes nothing.
use mathlib.Core.Path.{◌≡◌, sym, ◌∙◌}
use mathlib.Core.List.{List}
use Prim.Native.Nat.{ℕ, ◌<◌}
use lib.ListN.{get_or}
use Rattle.field.specs.Rows.{poly_in}
use Rattle.field.specs.Field.{field_at}
use Rattle.field.specs.Tables.{Halves, Logs, Antilogs, HalfRoot, log_of, antilog_of}
use Rattle.field.proofs.Known.{row11}
use Rattle.field.proofs.Generator.{generated}
use Rattle.field.proofs.Solutions.{half-root-unique}
use Rattle.field_tables.proofs.Held.{log_at, antilog_at, half_at, logs-tested, antilogs-tested, halves-tested}

pub log_is : (x : ℕ) → x < 2048 → log_at x ≡ log_of (field_at 11) x
unfolding log_at
log_is = logs-tested.entry

pub antilog-is : (j : ℕ) → j < 8188 → antilog_at j ≡ antilog_of (field_at 11) j
unfolding antilog_at
antilog-is = antilogs-tested.entry

pub half_is : (i : ℕ) → i < 2048 → HalfRoot (field_at 11) i (half_at i)
unfolding half_at
half_is = halves-tested.entry

pub logs-agree : {ls : List ℕ} → Logs (field_at 11) ls → (x : ℕ) → x < 2048 → get_or ls x 0 ≡ log_at x
logs-agree l x h = l.entry x h ∙ sym (log_is x h)

pub antilogs-agree : {ts : List ℕ} → Antilogs (field_at 11) ts → (j : ℕ) → j < 8188 → get_or ts j 0 ≡ antilog_at j
antilogs-agree t j h = t.entry j h ∙ sym (antilog-is j h)

pub halves-agree : {hs : List ℕ} → Halves (field_at 11) hs → (i : ℕ) → i < 2048 → get_or hs i 0 ≡ half_at i
unfolding poly_in
halves-agree {hs} a i h = half-root-unique _ (generated row11) i (get_or hs i 0) (half_at i) (a.entry i h) (half_is i h)
