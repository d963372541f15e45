-- `corrector::correct` meets its contract: what the tests turn away.
-- Assumes nothing.
use Rattle.refusals.proofs.Admitting.{passed-on}
use Rattle.corrector.proofs.Outcomes.{refused-block}
use Rattle.corrector.proofs.correct.Goals as goal

pub returns-in_err-admit_block : goal.returns-in_err-admit_block
returns-in_err-admit_block c =
    rw (passed-on _ c.from_residual.ensures.1) (refused-block c.admit_block.ensures c.in_err-admit_block.was)
