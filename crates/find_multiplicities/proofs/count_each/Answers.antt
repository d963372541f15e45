-- `find_multiplicities::count_each` meets its contract. The loop's invariant: the first i roots are counted.
-- Assumes nothing.
use native.Mathlib.Omega.{arith}
use Rattle.find_multiplicities.proofs.Counting.{counting-from, counting-asks, counting-fits, counting-room, counting-sum, counting-on, counting-end}
use borrow.Author.Rules.{rules}
use Rattle.find_multiplicities.proofs.count_each.Goals as goal

pub loop-i-init : goal.loop-i-init
loop-i-init c = counting-from c.args.tables.now.lent c.requires

pub offset_bounds-f-at : goal.offset_bounds-f-at
offset_bounds-f-at c = let h = c.loop-i.invariant.at_most in search rules

pub slice_bounds-take_out-count : goal.slice_bounds-take_out-count
slice_bounds-take_out-count c = let h = c.loop-i.invariant.at_most in search rules

pub slice_bounds-take_out-start : goal.slice_bounds-take_out-start
slice_bounds-take_out-start c = let h = c.loop-i.invariant.at_most in search rules

pub take_out-e-requires : goal.take_out-e-requires
take_out-e-requires c = counting-asks c.loop-i.invariant (omega arith)

pub overflow_cast-mults : goal.overflow_cast-mults
overflow_cast-mults c = let h = counting-fits c.loop-i.invariant c.take_out-e.ensures in search rules

pub bounds-mults-i : goal.bounds-mults-i
bounds-mults-i c = counting-room c.loop-i.invariant (omega arith)

pub overflow_add-at : goal.overflow_add-at
overflow_add-at c = let h = counting-sum c.loop-i.invariant c.take_out-e.ensures in search rules

pub loop-i-preserved : goal.loop-i-preserved
loop-i-preserved c = counting-on c.loop-i.invariant (omega arith) c.take_out-e.ensures c.take_out-e.auto.f

pub returns : goal.returns
returns c = counting-end c.loop-i.invariant (omega arith)
