-- `poly::division::remainder` meets its contract: a shorter polynomial is copied, a longer one divided.
-- Assumes nothing.
use mathlib.Core.Path.{refl}
use native.Mathlib.Omega.{arith}
use Rattle.poly.proofs.Remainders.{remainder-short, remainder-asks, remainder-long}
use Rattle.poly.proofs.division.remainder.Goals as goal

pub returns-then-n-row : goal.returns-then-n-row
returns-then-n-row c = remainder-short c.requires c.args.tables.now.lent c.if-n-row.true c.store.ensures refl (c.fill.ensures.after (λ y e. e))

pub divide-requires : goal.divide-requires
divide-requires c = remainder-asks c.requires (omega arith)

pub returns : goal.returns
returns c = remainder-long _ _ _ c.divide.ensures c.store-2.ensures
