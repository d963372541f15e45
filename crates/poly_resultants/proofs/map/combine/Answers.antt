-- `poly_resultants::map::combine` meets its contract. The loop's invariant: what lies ahead is still to be combined.
-- Assumes nothing.
use mathlib.Core.Path.{◌≡◌}
use Prim.Native.Nat.{◌+◌, ◌*◌}
use native.Mathlib.Omega.{arith}
use Rattle.poly_resultants.proofs.MapLoops.{combining-from, combining-next, combining-on, combining-end}
use Rattle.poly_resultants.proofs.map.combine.Goals as goal

pub loop-k-init : goal.loop-k-init
loop-k-init c = combining-from c.args.tables.now.lent c.requires

pub bounds-s-i : goal.bounds-s-i
bounds-s-i c = omega (arith, c.loop-k.invariant.long, c.loop-k.invariant.size)

pub bounds-s-i-in-loop-k : goal.bounds-s-i-in-loop-k
bounds-s-i-in-loop-k c = omega (arith, c.loop-k.invariant.long, c.loop-k.invariant.size)

pub product-requires : goal.product-requires
product-requires c = (c.loop-k.invariant.given.positive, c.loop-k.invariant.given.small, combining-next c.loop-k.invariant (omega arith))

pub bounds-s-i-in-loop-k-2 : goal.bounds-s-i-in-loop-k-2
bounds-s-i-in-loop-k-2 c = omega (arith, c.loop-k.invariant.long, c.loop-k.invariant.size)

pub loop-k-preserved : goal.loop-k-preserved
loop-k-preserved c =
    let next : 2 * (c.loop-k.k + 1) ≡ 2 * c.loop-k.k + 2 = omega arith in
    rw next (combining-on c.loop-k.invariant (omega arith) c.product.ensures)

pub returns : goal.returns
returns c = combining-end c.loop-k.invariant (omega arith)
