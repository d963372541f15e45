-- `poly_gcd::leave_remainder` meets its contract: zeros fill up a shorter polynomial, a longer one is divided.
-- Assumes nothing.
use native.Mathlib.Omega.{arith}
use Rattle.poly_gcd.proofs.EuclidLoops.{reduce-row, reduce-asks, reduce-short, reduce-long}
use Rattle.poly_gcd.proofs.leave_remainder.Goals as goal

pub log_row-requires : goal.log_row-requires
log_row-requires c = reduce-row c.args.tables.now.lent c.requires

pub returns-then-k-n : goal.returns-then-k-n
returns-then-k-n c = reduce-short c.args.tables.now.lent c.requires (omega arith) (c.fill.ensures.after (λ y e. e))

pub divide-requires : goal.divide-requires
divide-requires c = reduce-asks c.args.tables.now.lent c.requires c.log_row.ensures (omega arith)

pub returns : goal.returns
returns c = reduce-long c.args.tables.now.lent c.requires c.log_row.ensures (omega arith) c.divide.ensures
