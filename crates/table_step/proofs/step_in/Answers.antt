-- `table_step::step_in` meets its contract: the trace sum modulo the factor stands for Tr(a^i z).
-- Assumes nothing.
use mathlib.Core.Path.{sym, ◌∙◌}
use Prim.Native.Nat.{ℕ}
use lib.ListN.{length, drop, replicate}
use lib.Seq.{length-take-le}
use Rattle.input.specs.Limit.{limit}
use Rattle.table_step.proofs.Replacing.{head-there, named, level-there, stands, read-few, split-asks, trace-within, trace-ready}
use Rattle.table_step.proofs.step_in.Goals as goal

pub head_of-h-requires : goal.head_of-h-requires
head_of-h-requires c = head-there c.args.table.now c.requires

pub tables_of-tables-requires : goal.tables_of-tables-requires
tables_of-tables-requires c = named c.args.table.now c.requires c.head_of-h.ensures

pub level_at-level-requires : goal.level_at-level-requires
level_at-level-requires c = level-there c.args.table.now c.requires

pub low_at-p-requires : goal.low_at-p-requires
low_at-p-requires c = stands c.args.table.now c.requires

pub slice_bounds-t-end : goal.slice_bounds-t-end
slice_bounds-t-end c =
    read-few c.args.table.now c.requires (c.tables_of-tables.ensures ∙ c.head_of-h.ensures.width) c.level_at-level.ensures c.low_at-p.ensures

pub slice_bounds-trace_at-end : goal.slice_bounds-trace_at-end
slice_bounds-trace_at-end c =
    sym (length-take-le _ _ (read-few c.args.table.now c.requires (c.tables_of-tables.ensures ∙ c.head_of-h.ensures.width) c.level_at-level.ensures c.low_at-p.ensures))

pub trace_at-requires : goal.trace_at-requires
trace_at-requires c =
    let h = (c.tables_of-tables.ensures ∙ c.head_of-h.ensures.width) in
    let i = c.level_at-level.ensures in
    let p = c.low_at-p.ensures in
    (split-asks c.args.table.now c.requires h i p, length-take-le _ _ (read-few c.args.table.now c.requires h i p))

pub slice_bounds-t-end-2 : goal.slice_bounds-t-end-2
slice_bounds-t-end-2 c =
    let z = drop {A = ℕ} (length c.low_at-p.result.now) (replicate limit 0) in
    trace-within c.args.table.now c.requires (c.tables_of-tables.ensures ∙ c.head_of-h.ensures.width) c.level_at-level.ensures c.low_at-p.ensures c.tables_of-tables.result.lent z c.trace_at.ensures

pub slice_bounds-step_lent-end : goal.slice_bounds-step_lent-end
slice_bounds-step_lent-end c =
    let z = drop {A = ℕ} (length c.low_at-p.result.now) (replicate limit 0) in
    sym (length-take-le _ _ (trace-within c.args.table.now c.requires (c.tables_of-tables.ensures ∙ c.head_of-h.ensures.width) c.level_at-level.ensures c.low_at-p.ensures c.tables_of-tables.result.lent z c.trace_at.ensures))

pub step_lent-requires : goal.step_lent-requires
step_lent-requires c =
    trace-ready c.args.table.now c.requires (c.tables_of-tables.ensures ∙ c.head_of-h.ensures.width) c.level_at-level.ensures c.low_at-p.ensures c.tables_of-tables.result.lent _ c.trace_at.ensures
