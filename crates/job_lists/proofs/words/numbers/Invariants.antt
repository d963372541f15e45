-- `job_lists::words::numbers` meets its contract: at each turn the numbers of the words before the place are in the
-- list.
-- Assumes nothing.
use Rattle.job_lists.proofs.Taking.{Taking}
use Rattle.job_lists.proofs.words.numbers.Given as goal

abbrev pub invariant-loop-b : goal.invariant-loop-b
invariant-loop-b l = Taking l.line l.list.items l.word l.b-index
