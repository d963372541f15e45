-- `poly_resultants::map::square_all` meets its contract. The loop's invariant: the first i elements are squared.
-- Assumes nothing.
use Rattle.poly_resultants.proofs.MapLoops.{squaring-from, squaring-small, squaring-on, squaring-end}
use native.Mathlib.Omega.{arith}
use Rattle.poly_resultants.proofs.map.square_all.Goals as goal

pub loop-c-init : goal.loop-c-init
loop-c-init c = squaring-from c.args.tables.now.lent c.requires

pub square_by_logs-requires : goal.square_by_logs-requires
square_by_logs-requires c = squaring-small c.loop-c.invariant (omega (arith, c.loop-c.invariant.filling.long))

pub loop-c-preserved : goal.loop-c-preserved
loop-c-preserved c = squaring-on c.loop-c.invariant (omega (arith, c.loop-c.invariant.filling.long)) c.square_by_logs.ensures

pub returns : goal.returns
returns c = squaring-end c.loop-c.invariant (omega (arith, c.loop-c.invariant.filling.long))
