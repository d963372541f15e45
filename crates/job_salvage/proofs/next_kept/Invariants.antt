-- `job_salvage::next_kept` meets its contract: at each turn none is kept before the place.
-- Assumes nothing.
use Rattle.job_salvage.proofs.Turns.{Seeking}
use Rattle.job_salvage.proofs.next_kept.Given as goal

abbrev pub invariant-loop-start : goal.invariant-loop-start
invariant-loop-start l = Seeking l.file l.at l.start
