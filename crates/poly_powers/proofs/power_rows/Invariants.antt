-- `poly_powers::power_rows` meets its contract. The loop's invariant: i squarings are done, and the rows of the powers
-- before are written.
-- Assumes nothing.
use Prim.Native.Nat.{◌*◌}
use lib.ListN.{length}
use Rattle.poly_powers.proofs.TraceLoops.{Saving}
use Rattle.poly_powers.proofs.power_rows.Given as goal

abbrev pub invariant-loop-i : goal.invariant-loop-i
invariant-loop-i l = Saving l.tables.degree l.tables.logs.now l.tables.antilogs.now l.row l.k l.initial.w l.initial.s l.initial.rows l.w l.s l.rows (l.i * length l.row) l.i
