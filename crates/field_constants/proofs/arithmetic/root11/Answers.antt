-- `field_constants::arithmetic::root11` meets its contract: the log is halved, modulo the order.
-- Assumes nothing.
use native.Mathlib.Omega.{arith}
use Rattle.field_constants.proofs.Field11.{log-bound, root-zero, root_is}
use Rattle.field_constants.proofs.arithmetic.root11.Goals as goal

pub returns-then-x-eq0 : goal.returns-then-x-eq0
returns-then-x-eq0 c = root-zero c.if-x-eq0.true

pub antilog11-requires : goal.antilog11-requires
antilog11-requires c = omega (arith, log-bound c.requires c.log11-k.ensures)

pub returns : goal.returns
returns c =
    root_is c.if-x-eq0.false c.requires c.log11-k.ensures c.antilog11.ensures
