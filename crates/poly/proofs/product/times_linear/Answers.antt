-- `poly::product::times_linear` meets its contract. The loop's invariant: the first i coefficients are the product's.
-- Assumes nothing.
use native.Mathlib.Omega.{arith}
use Rattle.poly.proofs.Stretching.{stretch-from, stretch-skipped, stretch-logs}
use Rattle.poly.proofs.Stretching.{stretch-fits, stretch-on, stretch-whole}
use Rattle.poly.proofs.product.times_linear.Goals as goal

pub bounds-f-0 : goal.bounds-f-0
bounds-f-0 c = omega (arith, c.requires.room)

pub returns-then-r-eq0 : goal.returns-then-r-eq0
returns-then-r-eq0 c = stretch-skipped c.args.tables.now.lent c.requires c.if-r-eq0.true

pub loop-i-init : goal.loop-i-init
loop-i-init c = stretch-from c.args.tables.now.lent c.requires

pub bounds-logs-f : goal.bounds-logs-f
bounds-logs-f c = stretch-logs c.loop-i.invariant (omega arith)

pub bounds-antilogs-s : goal.bounds-antilogs-s
bounds-antilogs-s c =
    stretch-fits c.loop-i.invariant (omega arith) (omega arith)

pub loop-i-preserved : goal.loop-i-preserved
loop-i-preserved c = stretch-on c.loop-i.invariant (omega arith) (omega arith)

pub returns : goal.returns
returns c = stretch-whole c.args.f.now c.loop-i.invariant (omega arith)
