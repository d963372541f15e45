-- `find_multiplicities::multiplicities_lent` meets its contract: the copy's front is the polynomial.
-- Assumes nothing.
use native.Mathlib.Omega.{arith}
use lib.Seq.{length-take-le}
use mathlib.Core.Path.{sym}
use Rattle.find_multiplicities.proofs.Counting.{lent-asks, lent-counts}
use Rattle.find_multiplicities.proofs.multiplicities_lent.Goals as goal

pub slice_bounds-count_each-end : goal.slice_bounds-count_each-end
slice_bounds-count_each-end c = let h = c.copy.auto.d in let few = c.requires.polynomial.few in sym (length-take-le _ _ (omega arith))

pub count_each-requires : goal.count_each-requires
count_each-requires c = lent-asks c.args.tables.now.lent c.requires _ c.copy.ensures

pub returns : goal.returns
returns c = lent-counts c.args.tables.now.lent c.requires _ c.copy.ensures c.count_each.ensures
