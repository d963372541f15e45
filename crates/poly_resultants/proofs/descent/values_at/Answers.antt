-- `poly_resultants::descent::values_at` meets its contract. The loop's invariant: from k on both values are made.
-- Assumes nothing.
use Rattle.poly_resultants.proofs.Pairing.{pairing-from, pairing-low, pairing-high, pairing-on, pairing-end}
use native.Mathlib.Omega.{arith}
use mathlib.Core.Path.{refl}
use Rattle.poly_resultants.proofs.descent.values_at.Goals as goal

pub loop-k-init : goal.loop-k-init
loop-k-init c = pairing-from c.args.tables.now.lent c.requires c.last_of-low.ensures

pub bounds-p-k : goal.bounds-p-k
bounds-p-k c = omega (arith, c.loop-k.invariant.low.within)

pub product-requires : goal.product-requires
product-requires c = (c.loop-k.invariant.low.nonzero, c.loop-k.invariant.low.element, pairing-low c.loop-k.invariant)

pub bounds-q-k : goal.bounds-q-k
bounds-q-k c = omega (arith, c.loop-k.invariant.high.within)

pub product-requires-in-loop-k : goal.product-requires-in-loop-k
product-requires-in-loop-k c = (c.loop-k.invariant.high.nonzero, c.loop-k.invariant.high.element, pairing-high c.loop-k.invariant)

pub loop-k-preserved : goal.loop-k-preserved
loop-k-preserved c = pairing-on c.loop-k.invariant (omega arith) c.product.ensures c.product-in-loop-k.ensures

pub returns : goal.returns
returns c = pairing-end c.loop-k.invariant (omega arith) refl refl
