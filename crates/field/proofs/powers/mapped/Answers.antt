-- `field::powers::mapped` meets its contract. The loop keeps what `Mapping` says.
-- Assumes nothing.
use mathlib.Core.Logic.{inl, inr}
use native.Mathlib.Omega.{arith}
use Rattle.field.proofs.Raising.{mapping-on, mapping-end}
use Rattle.field.proofs.powers.mapped.Goals as goal
use Rattle.field.proofs.powers.mapped.Goals.{else-rest-eq1, then-rest-eq1}

pub loop-entry-preserved : goal.loop-entry-preserved
loop-entry-preserved c = mapping-on c.loop-entry.invariant (omega arith) (elim c.if-rest-eq1.branch [ then-rest-eq1 w ↦ inl (w.if-rest-eq1.true, w.sum-is) | else-rest-eq1 w ↦ inr (w.if-rest-eq1.false, w.sum-is) ])

pub returns : goal.returns
returns c = mapping-end c.loop-entry.invariant (omega arith)
