-- `poly_powers::square_into` meets its contract. The loop's invariant: the squares of the first i coefficients are
-- written.
-- Assumes nothing.
use native.Mathlib.Omega.{arith}
use Rattle.poly_powers.proofs.PowerLoops.{spread-from, spread-asks, spread-on, spread_end}
use Rattle.poly_powers.proofs.square_into.Goals as goal

pub loop-i-init : goal.loop-i-init
loop-i-init c = spread-from c.requires

pub square_by_logs-requires : goal.square_by_logs-requires
square_by_logs-requires c = spread-asks c.loop-i.invariant (omega arith)

pub loop-i-preserved : goal.loop-i-preserved
loop-i-preserved c = spread-on c.loop-i.invariant (omega arith) c.square_by_logs.ensures

pub returns : goal.returns
returns c = spread_end c.loop-i.invariant (omega arith)
