-- `find_direct::steps::sharing` meets its contract. The loop's invariant: those counted are as many as are not ahead.
-- Assumes nothing.
use native.Mathlib.Omega.{arith}
use Rattle.find_direct.proofs.Groups.{sharing-from, sharing-on, sharing-few, sharing-end}
use Rattle.find_direct.proofs.steps.sharing.Goals as goal

pub loop-root-init : goal.loop-root-init
loop-root-init c = sharing-from _ _ _

pub overflow_add-n : goal.overflow_add-n
overflow_add-n c =
    omega (arith, sharing-few (sharing-on c.loop-root.invariant (omega arith) c.shares-n.ensures))

pub loop-root-preserved : goal.loop-root-preserved
loop-root-preserved c = sharing-on c.loop-root.invariant (omega arith) c.shares-n.ensures

pub returns : goal.returns
returns c = sharing-end c.loop-root.invariant (omega arith)
