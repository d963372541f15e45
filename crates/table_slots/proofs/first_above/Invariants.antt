-- `table_slots::first_above` meets its contract.
-- Assumes nothing.
use Rattle.table_slots.specs.Slots.{count_of}
use Rattle.table_slots.proofs.Passes.{Seeking}
use Rattle.table_slots.proofs.first_above.Given as goal

abbrev pub invariant-loop : goal.invariant-loop
invariant-loop l = Seeking l.table l.c (count_of l.table) l.counter l.at
