-- `claims::spread_into` meets its contract: the roots before this one are spread.
-- Assumes nothing.
use mathlib.Core.Path.{refl}
use native.Mathlib.Omega.{arith}
use Rattle.claims.proofs.Spreading.{spread-from, spread-fits, spread-reads, spread-on, spread_end}
use Rattle.claims.proofs.spread_into.Goals as goal

pub loop-i-init : goal.loop-i-init
loop-i-init c = spread-from c.requires

pub bounds-mults-i : goal.bounds-mults-i
bounds-mults-i c = spread-reads c.loop-i.invariant (omega arith)

pub slice_bounds-fill-end : goal.slice_bounds-fill-end
slice_bounds-fill-end c = omega (arith, spread-fits c.loop-i.invariant c.loop-i-test.true)

pub loop-i-preserved : goal.loop-i-preserved
loop-i-preserved c = spread-on c.loop-i.invariant (omega arith) refl (c.fill.ensures.after (λ y e. e))

pub returns : goal.returns
returns c = spread_end c.loop-i.invariant (omega arith)
