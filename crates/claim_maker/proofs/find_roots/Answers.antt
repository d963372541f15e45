-- `claim_maker::find_roots` meets its contract: a table is begun and stepped to its end, and what finish lists of it is the
-- roots. The rows that begin left are kept.
-- Assumes nothing.
use mathlib.Core.Path.{refl, sym}
use native.Mathlib.Omega.{arith}
use lib.Seq.{length-take-le}
use Rattle.find_solve.proofs.Admitting.{solve-begins}
use Rattle.claim_maker.proofs.Powering.{find-fits, find_runs, find-lists, find-is}
use borrow.Author.Rules.{rules}
use Rattle.claim_maker.proofs.find_roots.Goals as goal

pub begin_lent-n-requires : goal.begin_lent-n-requires
begin_lent-n-requires c = solve-begins c.requires.0 refl c.requires.1

pub run_table-requires : goal.run_table-requires
run_table-requires c = find_runs c.requires.0 c.begin_lent-n.ensures.0 c.begin_lent-n.ensures.1

pub finish_lent-requires : goal.finish_lent-requires
finish_lent-requires c = find-lists c.requires.0 c.begin_lent-n.ensures.0 c.begin_lent-n.ensures.1 c.run_table.ensures

pub returns : goal.returns
returns c = let h = find-fits c.requires.0 c.begin_lent-n.ensures.0 c.begin_lent-n.ensures.1 in let r = c.requires.1 in find-is c.requires.0 c.begin_lent-n.ensures.0 c.begin_lent-n.ensures.1 c.run_table.ensures _ refl (search rules) c.finish_lent.ensures.count c.finish_lent.ensures.slots

pub overflow_mul-e : goal.overflow_mul-e
overflow_mul-e c = let h = find-fits c.requires.0 c.begin_lent-n.ensures.0 c.begin_lent-n.ensures.1 in omega arith

pub slice_bounds-run_table-end : goal.slice_bounds-run_table-end
slice_bounds-run_table-end c = let h = find-fits c.requires.0 c.begin_lent-n.ensures.0 c.begin_lent-n.ensures.1 in let r = c.requires.1 in search rules

pub slice_bounds-run_table-end-2 : goal.slice_bounds-run_table-end-2
slice_bounds-run_table-end-2 c = let h = find-fits c.requires.0 c.begin_lent-n.ensures.0 c.begin_lent-n.ensures.1 in let r = c.requires.1 in sym (length-take-le _ _ (search rules))
