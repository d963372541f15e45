-- `job_lists::is_whole` meets its contract.
-- Assumes nothing.
use mathlib.Core.Path.{refl}
use Rattle.job_lists.specs.Lines.{ends_whole}
use Rattle.job_lists.proofs.is_whole.Goals as goal

pub returns-then-ended : goal.returns-then-ended
unfolding ends_whole
returns-then-ended c = rw c.if-ended.true refl

pub returns-else-ended : goal.returns-else-ended
unfolding ends_whole
returns-else-ended c = rw c.if-ended.false refl
