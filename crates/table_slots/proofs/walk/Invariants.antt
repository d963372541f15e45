-- `table_slots::walk` meets its contract.
-- Assumes nothing.
use Rattle.table_slots.proofs.Passes.{Walking}
use Rattle.table_slots.proofs.walk.Given as goal

abbrev pub invariant-loop : goal.invariant-loop
invariant-loop l = Walking l.s l.m l.count l.limit l.counter l.sum l.at
