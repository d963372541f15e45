-- `poly::monic::scale` meets its contract. The loop's invariant: the first i coefficients are multiplied.
-- Assumes nothing.
use native.Mathlib.Omega.{arith}
use Rattle.poly.proofs.Monics.{scale-from, scale-on, scale-logs, scale-fits, scale-end}
use Rattle.poly.proofs.monic.scale.Goals as goal

pub loop-x-init : goal.loop-x-init
loop-x-init c = scale-from c.args.tables.now.lent c.requires

pub bounds-logs-x : goal.bounds-logs-x
bounds-logs-x c = scale-logs c.loop-x.invariant (omega arith)

pub bounds-antilogs-s : goal.bounds-antilogs-s
bounds-antilogs-s c = scale-fits c.loop-x.invariant (omega arith)

pub loop-x-preserved : goal.loop-x-preserved
loop-x-preserved c = scale-on c.loop-x.invariant (omega arith)

pub returns : goal.returns
returns c = scale-end c.loop-x.invariant (omega arith)
