-- `poly_powers::power_mod` meets its contract. The loop's invariant: i squarings are done.
-- Assumes nothing.
use Rattle.poly_powers.proofs.PowerLoops.{Powering}
use Rattle.poly_powers.proofs.power_mod.Given as goal

abbrev pub invariant-loop : goal.invariant-loop
invariant-loop l = Powering l.tables.degree l.tables.logs.now l.tables.antilogs.now l.row l.k l.initial.w l.initial.s l.w l.s l.counter
