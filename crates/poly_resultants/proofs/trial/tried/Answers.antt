-- `poly_resultants::trial::tried` meets its contract. The loop's invariant: the roots below x are written, and x is a multiple of 4.
-- Assumes nothing.
use native.Mathlib.Omega.{arith}
use Rattle.poly_resultants.proofs.Trying.{fours-from, fours-asks, fours-on, fours-end}
use Rattle.poly_resultants.proofs.trial.tried.Goals as goal

pub try_first-n-requires : goal.try_first-n-requires
try_first-n-requires c = c.requires.0

pub loop-x-init : goal.loop-x-init
loop-x-init c = fours-from c.args.tables.now.lent c.requires.0 c.requires.1 c.try_first-n.ensures

pub try_four-n-requires : goal.try_four-n-requires
try_four-n-requires c = fours-asks c.loop-x.invariant (omega arith)

pub loop-x-preserved : goal.loop-x-preserved
loop-x-preserved c = fours-on c.loop-x.invariant (omega arith) c.try_four-n.ensures

pub returns : goal.returns
returns c = fours-end c.loop-x.invariant (omega arith)

pub returns-2 : goal.returns-2
returns-2 c = fours-end (fours-on c.loop-x.invariant (omega arith) c.try_four-n.ensures) (omega arith)
