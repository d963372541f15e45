-- `poly_powers::add_trace` meets its contract. The loop's invariant: i terms of the sum are added.
-- Assumes nothing.
use Prim.Native.Nat.{◌*◌}
use lib.ListN.{length}
use Rattle.poly_powers.proofs.TraceLoops.{Combining}
use Rattle.poly_powers.proofs.add_trace.Given as goal

abbrev pub invariant-loop-i : goal.invariant-loop-i
invariant-loop-i l = Combining l.tables.degree l.tables.logs.now l.tables.antilogs.now l.rows l.k l.b l.initial.t l.t l.c (l.i * length l.initial.t) l.i
