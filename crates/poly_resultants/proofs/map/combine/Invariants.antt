-- `poly_resultants::map::combine` meets its contract. The loop's invariant: what lies ahead is still to be combined.
-- Assumes nothing.
use Prim.Native.Nat.{◌*◌}
use lib.ListN.{length}
use Rattle.poly_resultants.proofs.MapLoops.{Combining}
use Rattle.poly_resultants.proofs.map.combine.Given as goal

abbrev pub invariant-loop-k : goal.invariant-loop-k
invariant-loop-k l = Combining l.tables.degree l.tables.logs.now l.tables.antilogs.now l.b l.initial.s (length l.initial.s) l.s (2 * l.k)
