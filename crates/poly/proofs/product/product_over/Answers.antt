-- `poly::product::product_over` meets its contract. The loop's invariant: the product over the roots from i on stands
-- from place i on.
-- Assumes nothing.
use native.Mathlib.Omega.{arith}
use Rattle.poly.proofs.Multiplying.{multiply-from, multiply-lent}
use Rattle.poly.proofs.Multiplying.{multiply-on, multiply-whole}
use Rattle.poly.proofs.product.product_over.Goals as goal

pub bounds-f-n : goal.bounds-f-n
bounds-f-n c = omega (arith, c.requires.room)

pub loop-i-init : goal.loop-i-init
loop-i-init c = multiply-from c.args.tables.now.lent c.requires

pub times_linear-requires : goal.times_linear-requires
times_linear-requires c = multiply-lent c.loop-i.invariant (omega arith)

pub loop-i-preserved : goal.loop-i-preserved
loop-i-preserved c =
    multiply-on c.loop-i.invariant
    (omega arith) c.times_linear.ensures

pub returns : goal.returns
returns c =
    multiply-whole c.args.f.now
    c.loop-i.invariant (omega arith)
