-- `find_resultants::chain_of` meets its contract: the chains were tested.
-- Assumes nothing.
use Rattle.field.proofs.Known.{row4, row8, row11, last_row}
use Rattle.poly_resultants.proofs.Reaching.{chained-of, chained-at}
use Rattle.find_resultants.proofs.chain_of.Goals as goal

pub returns-in-4 : goal.returns-in-4
returns-in-4 c = chained-at c.in-4.is (chained-of 4 row4.degree)

pub returns-in-8 : goal.returns-in-8
returns-in-8 c = chained-at c.in-8.is (chained-of 8 row8.degree)

pub returns-in_default : goal.returns-in_default
returns-in_default c = chained-at (last_row _ c.requires c.in_default.in_default-own.rest.0.1 c.in_default.in_default-own.rest.1) (chained-of 11 row11.degree)
