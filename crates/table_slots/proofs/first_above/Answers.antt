-- `table_slots::first_above` meets its contract.
-- Assumes nothing.
use mathlib.Core.Path.{◌∙◌}
use Prim.Native.Nat.{◌+◌}
use native.Mathlib.Omega.{arith}
use Rattle.table_slots.proofs.Passes.{seek-from, seek-cut, seek_hit, seek-on, seek-end}
use Rattle.table_slots.proofs.first_above.Goals as goal

pub loop-init : goal.loop-init
loop-init c = seek-from _ _ _

pub returns-in_err-d : goal.returns-in_err-d
returns-in_err-d c = c.from_residual.ensures ∙ seek-cut c.loop.invariant (omega arith) (omega (arith, c.in_err-d.ensures.lookup))

pub returns-then-c-d : goal.returns-then-c-d
returns-then-c-d c =
    let h = c.in_ok-d.ensures.lookup in
    seek_hit c.loop.invariant (omega arith) h.3.0 (h.3.1 0) c.if-c-d.true

pub loop-preserved : goal.loop-preserved
loop-preserved c =
    let h = c.in_ok-d.ensures.lookup in
    let e = h.3.1 0 in
    seek-on c.loop.invariant (omega arith) h.3.0 e c.if-c-d.false (omega (arith, e, c.type_inv.table (c.loop.at + 1)))

pub returns : goal.returns
returns c = seek-end c.loop.invariant (omega arith)
