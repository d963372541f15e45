-- `find_solve::run_table` meets its contract: the table is a begun one after as many steps as its head counts, and
-- some levels have their sums.
-- Assumes nothing.
use mathlib.Core.Path.{refl}
use native.Mathlib.Omega.{arith}
use Rattle.table_step.proofs.Replacing.{level-there}
use Rattle.find_solve.proofs.Running.{found_none, found_at, long-now, run-count, run-left, run_end}
use Rattle.find_solve.proofs.Tracing.{going-from, turn-asks, turn-held, turn-ready, turn-on}
use Rattle.find_solve.proofs.run_table.Goals as goal

pub loop-o-init : goal.loop-o-init
loop-o-init c = record { places = refl; rows_are = refl; going = going-from c.args.tables.now.lent refl c.requires }

pub first_above-requires : goal.first_above-requires
first_above-requires c = let h = long-now c.loop-o.invariant.going.stepping in omega arith

pub level_at-level-requires : goal.level_at-level-requires
level_at-level-requires c = level-there _ (found_at c.loop-o.invariant.going.stepping c.first_above.ensures c.in-Some.is)

pub reach-requires : goal.reach-requires
reach-requires c =
    let w = c.loop-o.invariant in
    turn-asks c.args.tables.now.lent c.requires w (found_at w.going.stepping c.first_above.ensures c.in-Some.is) c.level_at-level.ensures

pub of-requires : goal.of-requires
of-requires c =
    let w = c.loop-o.invariant in
    turn-held c.args.tables.now.lent c.requires w (found_at w.going.stepping c.first_above.ensures c.in-Some.is) c.level_at-level.ensures c.reach.ensures

pub step_lent-requires : goal.step_lent-requires
step_lent-requires c =
    let w = c.loop-o.invariant in
    turn-ready c.args.tables.now.lent c.requires w (found_at w.going.stepping c.first_above.ensures c.in-Some.is) c.level_at-level.ensures c.reach.ensures c.of.ensures

pub loop-o-smaller : goal.loop-o-smaller
loop-o-smaller c =
    let s = c.loop-o.invariant.going.stepping in
    let d = (found_at s c.first_above.ensures c.in-Some.is).more in
    let k = run-count s d c.step_lent.ensures in
    let l = run-left s d in
    omega arith

pub loop-o-preserved : goal.loop-o-preserved
loop-o-preserved c =
    let w = c.loop-o.invariant in
    turn-on c.args.tables.now.lent c.requires w (found_at w.going.stepping c.first_above.ensures c.in-Some.is) c.level_at-level.ensures c.reach.ensures c.step_lent.ensures

pub returns : goal.returns
returns c =
    let s = c.loop-o.invariant.going.stepping in
    run_end s (found_none s c.first_above.ensures c.in_default.is)
