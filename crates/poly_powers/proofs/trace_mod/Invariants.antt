-- `poly_powers::trace_mod` meets its contract. The loop's invariant: i terms of the sum are added.
-- Assumes nothing.
use Rattle.poly_powers.proofs.PowerLoops.{Tracing}
use Rattle.poly_powers.proofs.trace_mod.Given as goal

abbrev pub invariant-loop : goal.invariant-loop
invariant-loop l = Tracing l.tables.degree l.tables.logs.now l.tables.antilogs.now l.row l.initial.w l.initial.s l.initial.t l.w l.s l.t l.counter
