-- `claims::tally` meets its contract: at each turn the answer for all is the answer for what lies ahead.
-- Assumes nothing.
use native.Mathlib.Omega.{arith}
use Rattle.claims.proofs.Tallying.{tally-from, tally-low, tally-none, tally-over, tally-on, tally-end, tally-unpaired}
use Rattle.claims.proofs.tally.Goals as goal
use Rattle.claims.proofs.tally.Goals.{then-e-eq0-via-then-e-eq0, then-e-eq0-via-else-e-eq0+then-left-e}

pub returns-then-roots-mults : goal.returns-then-roots-mults
returns-then-roots-mults c = tally-unpaired 0 _ _ _ c.if-roots-mults.true

pub loop-i-init : goal.loop-i-init
loop-i-init c = tally-from _ _ _

pub returns-then-r-least : goal.returns-then-r-least
returns-then-r-least c = tally-low c.loop-i.invariant (omega arith) (omega arith) c.if-r-least.true

pub loop-i-preserved : goal.loop-i-preserved
loop-i-preserved c = tally-on c.loop-i.invariant (omega arith) (omega arith) (omega arith) c.if-e-eq0.false (omega arith)

pub returns : goal.returns
returns c = tally-end c.loop-i.invariant (omega arith) (omega arith)

pub returns-then-e-eq0 : goal.returns-then-e-eq0
returns-then-e-eq0 c =
    elim c.then-e-eq0.branch [
      | then-e-eq0-via-then-e-eq0 w ↦ tally-none c.loop-i.invariant (omega arith) (omega arith) (omega arith) w.if-e-eq0.true
      | then-e-eq0-via-else-e-eq0+then-left-e w ↦ tally-over c.loop-i.invariant (omega arith) (omega arith) (omega arith) w.if-e-eq0.false w.if-left-e.true
    ]
