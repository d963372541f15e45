-- `field_elements::admit_nonzero` meets its contract: the tests of a pair, and one behind them.
-- Assumes nothing.
use Rattle.refusals.proofs.Admitting.{passed-on}
use Rattle.field_elements.proofs.Admitting.{let-in, one-turned, one-zero, one-in}
use Rattle.field_elements.proofs.admit_nonzero.Goals as goal

pub returns-in_err-row : goal.returns-in_err-row
returns-in_err-row c = rw (passed-on _ c.from_residual.ensures.1) (one-turned _ _ c.admit_pair.ensures c.in_err-row.was)

pub returns-then-a-eq0 : goal.returns-then-a-eq0
returns-then-a-eq0 c = one-zero _ _ (let-in c.admit_pair.ensures c.in_ok-row.was).0 c.if-a-eq0.true

pub returns : goal.returns
returns c = let h = let-in c.admit_pair.ensures c.in_ok-row.was in (one-in _ _ h.0 c.if-a-eq0.false, h.1)
