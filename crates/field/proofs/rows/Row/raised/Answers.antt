-- `field::rows::Row::raised` meets its contract. The loop keeps what `Raising` says.
-- Assumes nothing.
use native.Mathlib.Omega.{arith}
use Rattle.field.proofs.Generator.{generated, small}
use Rattle.field.proofs.Raising.{raising-from, raising-on, raising-end}
use Rattle.field.proofs.rows.Row.raised.Goals as goal

pub loop-turn-init : goal.loop-turn-init
loop-turn-init c = raising-from _ (generated c.requires.0) (small c.requires.0).degree-pos c.requires.2

pub loop-turn-preserved : goal.loop-turn-preserved
loop-turn-preserved c =
    let b = c in
    raising-on _ (generated b.requires.0) b.squares-row.ensures c.loop-turn.invariant (omega arith) c.mapped-y.ensures

pub returns : goal.returns
returns c = raising-end _ (generated c.requires.0) c.loop-turn.invariant (omega arith)
