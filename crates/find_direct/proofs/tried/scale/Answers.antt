-- `find_direct::tried::scale` meets its contract. The loop's invariant: those below i are written.
-- Assumes nothing.
use native.Mathlib.Omega.{arith}
use Rattle.algebra.proofs.StaysBelow.{below_at}
use Rattle.find_direct.proofs.Trials.{scaling-from, scaling-room, scaling-on, scaling-end}
use Rattle.find_direct.proofs.tried.scale.Goals as goal

pub loop-i-init : goal.loop-i-init
loop-i-init c = scaling-from c.requires.2

pub product11-requires : goal.product11-requires
product11-requires c =
    let start = c in
    (start.requires.0, below_at 2048 start.args.f.now start.requires.1 c.loop-i.i (omega arith))

pub bounds-p-i : goal.bounds-p-i
bounds-p-i c = scaling-room c.loop-i.invariant (omega arith)

pub loop-i-preserved : goal.loop-i-preserved
loop-i-preserved c = scaling-on c.loop-i.invariant (omega arith) c.product11.ensures

pub shape_of-p : goal.shape_of-p
shape_of-p c = c.loop-i.invariant.filling.long

pub returns : goal.returns
returns c = scaling-end c.loop-i.invariant (omega arith)
