-- `find_multiplicities::multiplicities_in` meets its contract: where all are simple ones are written, and where there is none nothing.
-- Assumes nothing.
use Rattle.find_multiplicities.proofs.Counting.{simple-written, none}
use Rattle.find_multiplicities.proofs.multiplicities_in.Goals as goal

pub returns-then-n-top : goal.returns-then-n-top
returns-then-n-top c = simple-written c.requires c.top.ensures c.if-n-top.true c.fill_ones.ensures

pub returns-then-n-eq0 : goal.returns-then-n-eq0
returns-then-n-eq0 c = none c.requires c.if-n-eq0.true

pub tables_of-requires : goal.tables_of-requires
tables_of-requires c = c.requires.polynomial.field

pub multiplicities_lent-requires : goal.multiplicities_lent-requires
multiplicities_lent-requires c = rw c.tables_of.ensures c.requires

pub returns : goal.returns
returns c = rw c.tables_of.ensures at c.multiplicities_lent.ensures
