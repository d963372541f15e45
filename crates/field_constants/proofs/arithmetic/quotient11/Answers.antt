-- `field_constants::arithmetic::quotient11` meets its contract: one log is added to what the other is short of.
-- Assumes nothing.
use native.Mathlib.Omega.{arith}
use Rattle.field_constants.proofs.Field11.{log-bound, quotient_is}
use Rattle.field_constants.proofs.arithmetic.quotient11.Goals as goal

pub overflow_sub-log11 : goal.overflow_sub-log11
overflow_sub-log11 c = omega (arith, log-bound c.requires.2 c.log11-2.ensures)

pub overflow_add-log11 : goal.overflow_add-log11
overflow_add-log11 c =
    let p = c.requires in
    omega (arith, log-bound p.0 c.log11.ensures, log-bound p.2 c.log11-2.ensures)

pub antilog11-requires : goal.antilog11-requires
antilog11-requires c =
    let p = c.requires in
    omega (arith, log-bound p.0 c.log11.ensures, log-bound p.2 c.log11-2.ensures)

pub returns : goal.returns
returns c =
    let p = c.requires in
    quotient_is p.0 p.1 p.2 c.log11.ensures c.log11-2.ensures c.antilog11.ensures
