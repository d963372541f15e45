-- `poly_powers::power_rows` meets its contract. The loop's invariant: i squarings are done, and the rows of the powers
-- before are written.
-- Assumes nothing.
use native.Mathlib.Omega.{arith}
use Rattle.poly_powers.proofs.TraceLoops.{saving-from, saving-asks, saving-on, saving-end}
use borrow.Author.Rules.{rules}
use Rattle.poly_powers.proofs.power_rows.Goals as goal

pub loop-i-init : goal.loop-i-init
loop-i-init c = saving-from _ c.args.tables.now.lent c.requires

pub log_row-requires : goal.log_row-requires
log_row-requires c = saving-asks c.loop-i.invariant (omega arith)

pub square_mod-requires : goal.square_mod-requires
square_mod-requires c = (c.loop-i.invariant.powering.given, omega (arith, c.loop-i.invariant.powering.long-s))

pub loop-i-preserved : goal.loop-i-preserved
loop-i-preserved c = saving-on c.loop-i.invariant (omega arith) c.log_row.ensures c.square_mod.ensures (search rules)

pub returns : goal.returns
returns c = saving-end c.loop-i.invariant (omega arith)
