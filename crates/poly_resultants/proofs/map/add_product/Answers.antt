-- `poly_resultants::map::add_product` meets its contract. The loop's invariant: what lies ahead still wants the rest of the product.
-- Assumes nothing.
use Rattle.poly_resultants.proofs.MapLoops.{multiplying-from, multiplying-small, multiplying-asks, multiplying-on, multiplying-end}
use Rattle.field.specs.Field.{field_at}
use Rattle.poly.proofs.Logs.{field_of}
use Rattle.field.proofs.Ring.{mul-lt}
use native.Mathlib.Omega.{arith}
use mathlib.Core.Path.{sym, subst}
use Prim.Native.Nat.{◌^◌, ◌<◌}
use Rattle.poly_resultants.proofs.map.add_product.Goals as goal

pub loop-i-init : goal.loop-i-init
loop-i-init c = multiplying-from c.args.tables.now.lent c.requires

pub product-t-requires : goal.product-t-requires
product-t-requires c = (c.loop-i.invariant.given.factors.positive, c.loop-i.invariant.given.factors.small, multiplying-small c.loop-i.invariant (omega arith))

pub add_row-requires : goal.add_row-requires
add_row-requires c = multiplying-asks c.loop-i.invariant (omega arith) (subst (λ w. w < 2 ^ c.args.tables.now.degree) (sym c.product-t.ensures) (mul-lt (field_at _) (field_of c.args.tables.now.lent).monic _ _))

pub loop-i-preserved : goal.loop-i-preserved
loop-i-preserved c = multiplying-on c.loop-i.invariant (omega arith) c.product-t.ensures c.add_row.ensures

pub returns : goal.returns
returns c = multiplying-end c.loop-i.invariant (omega arith)
