-- `field::rows::Row::squares` meets its contract. The loop keeps what `SquaresTo` says.
-- Assumes nothing.
use native.Mathlib.Omega.{arith}
use Rattle.field.proofs.Generator.{generated, small, product-asks}
use Rattle.field.proofs.Raising.{squares-from, squares-on, squares-end, twice-lt}
use Rattle.field.proofs.rows.Row.squares.Goals as goal

pub product-y-requires : goal.product-y-requires
product-y-requires c = product-asks c.requires.0 c.requires.1

pub loop-i-init : goal.loop-i-init
loop-i-init c = squares-from _ (generated c.requires.0) c.requires.1 (small c.requires.0).digits c.product-y.ensures

pub overflow_cast-row : goal.overflow_cast-row
overflow_cast-row c = omega (arith, c.loop-i.invariant.y-lt, (small c.requires.0).size-le)

pub bounds-row-i : goal.bounds-row-i
bounds-row-i c = omega (arith, (small c.requires.0).digits)

pub overflow_mul-y : goal.overflow_mul-y
overflow_mul-y c = omega (arith, c.loop-i.invariant.y-lt, (small c.requires.0).size-le)

pub cut-z-requires : goal.cut-z-requires
cut-z-requires c = (small c.requires.0).degree-lt

pub overflow_mul-z : goal.overflow_mul-z
overflow_mul-z c =
    let l = c.requires.0 in
    omega (arith, twice-lt _ (generated l) c.loop-i.invariant.y-lt c.cut-z.ensures, (small l).size-le)

pub cut-y-requires : goal.cut-y-requires
cut-y-requires c = (small c.requires.0).degree-lt

pub loop-i-preserved : goal.loop-i-preserved
loop-i-preserved c = squares-on _ (generated c.requires.0) c.loop-i.invariant (omega arith) c.cut-z.ensures c.cut-y.ensures

pub returns : goal.returns
returns c = squares-end _ (generated c.requires.0) c.loop-i.invariant (omega arith)
