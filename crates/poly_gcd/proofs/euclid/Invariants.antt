-- `poly_gcd::euclid` meets its contract. The loop's invariant: the greatest common divisor is what it was.
-- Assumes nothing.
use Rattle.poly_gcd.proofs.EuclidLoops.{Looping}
use Rattle.poly_gcd.proofs.euclid.Given as goal

abbrev pub invariant-loop-row : goal.invariant-loop-row
invariant-loop-row l = Looping l.tables.degree l.tables.logs.now l.tables.antilogs.now l.initial.row l.initial.a l.fn.n l.initial.b l.fn.k l.row l.a l.b l.n l.k

abbrev pub decreases-loop-row : goal.decreases-loop-row
decreases-loop-row l = l.n
