-- `table_finish::finish_lent` meets its contract. The loop's invariant: some numbers have been merged, and what lies
-- ahead has the others.
-- Assumes nothing.
use Rattle.table_rules.specs.Layout.{by_factor}
use Rattle.table_rules.specs.Table.{decode}
use Rattle.table_slots.specs.Slots.{width_of, cutoff_of}
use Rattle.table_finish.proofs.Merging.{Finishing}
use Rattle.table_finish.proofs.finish_lent.Given as goal

abbrev pub invariant-loop : goal.invariant-loop
invariant-loop l =
    Finishing (width_of l.table) (cutoff_of l.table) (decode by_factor l.table).factors l.table l.initial.roots l.roots l.end l.counter l.at l.k
