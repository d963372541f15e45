-- `table_slots::walk` meets its contract.
-- Assumes nothing.
use mathlib.Core.Path.{◌∙◌}
use mathlib.Core.Bool.{true, false}
use native.Mathlib.Omega.{arith}
use Rattle.table_slots.proofs.Passes.{walk_from, walk-room, walk-taken, walk-on, walk-stop, walk_end}
use Rattle.table_slots.proofs.walk.Goals as goal

pub loop-init : goal.loop-init
loop-init c = walk_from _ _ _ _ c.requires.1

pub front_slots-requires : goal.front_slots-requires
front_slots-requires c = (c.requires.0, walk-room c.loop.invariant)

pub returns-in_err-n : goal.returns-in_err-n
returns-in_err-n c = c.from_residual.ensures ∙ walk-stop c.loop.invariant c.in_err-n.ensures (omega arith)

pub overflow_sub-sum : goal.overflow_sub-sum
overflow_sub-sum c = omega (arith, walk-taken c.loop.invariant c.in_ok-n.ensures)

pub overflow_add-sum : goal.overflow_add-sum
overflow_add-sum c = omega (arith, walk-taken c.loop.invariant c.in_ok-n.ensures)

pub overflow_add-at : goal.overflow_add-at
overflow_add-at c = omega (arith, walk-taken c.loop.invariant c.in_ok-n.ensures)

pub loop-preserved : goal.loop-preserved
loop-preserved c = walk-on c.loop.invariant c.in_ok-n.ensures (omega arith)

pub returns-then-all_zero : goal.returns-then-all_zero
returns-then-all_zero c = walk_end true c.loop.invariant (omega arith) c.all_zero.ensures c.if-all_zero.true

pub returns-else-all_zero : goal.returns-else-all_zero
returns-else-all_zero c = walk_end false c.loop.invariant (omega arith) c.all_zero.ensures c.if-all_zero.false
