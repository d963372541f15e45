-- `job_sheet::with_accepted` meets its contract: each figure is counted on.
-- Assumes nothing.
use Rattle.job_sheet.proofs.with_accepted.Goals as goal

pub returns : goal.returns
returns c = rw c.risen-highest.ensures
