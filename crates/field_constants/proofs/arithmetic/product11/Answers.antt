-- `field_constants::arithmetic::product11` meets its contract: logs are added.
-- Assumes nothing.
use native.Mathlib.Omega.{arith}
use Rattle.field.proofs.Known.{row11}
use Rattle.field_constants.proofs.Field11.{product-zero}
use Rattle.field_constants.proofs.arithmetic.product11.Goals as goal

pub returns-then-x-eq0 : goal.returns-then-x-eq0
returns-then-x-eq0 c = product-zero _ c.if-x-eq0.true

pub tables_of-requires : goal.tables_of-requires
tables_of-requires c = row11.degree

pub product-requires : goal.product-requires
product-requires c = rw c.tables_of.ensures (let p = c.requires in (omega arith, p.0, p.1))
