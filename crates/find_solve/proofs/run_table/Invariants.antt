-- `find_solve::run_table` meets its contract: the table is a begun one after as many steps as its head counts, and
-- some levels have their sums.
-- Assumes nothing.
use Prim.Native.Nat.{◌-◌}
use Rattle.field.specs.Field.{roots_at}
use Rattle.table_rules.specs.Demand.{step_count}
use Rattle.table_slots.specs.Slots.{taken_of}
use Rattle.find_solve.proofs.Tracing.{GoingBy}
use Rattle.find_solve.proofs.run_table.Given as goal

abbrev pub invariant-loop-o : goal.invariant-loop-o
invariant-loop-o l = GoingBy l.tables.degree l.c l.coeffs l.n l.rows l.initial.table l.table l.sums

abbrev pub decreases-loop-o : goal.decreases-loop-o
decreases-loop-o l = step_count l.tables.degree l.c (roots_at l.tables.degree l.coeffs) - taken_of l.table
