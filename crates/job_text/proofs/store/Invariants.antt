-- `job_text::store` meets its contract. The loop's invariant: the first i bytes stand in the list.
-- Assumes nothing.
use Rattle.slices.proofs.Storing.{Storing}
use Rattle.job_text.proofs.store.Given as goal

abbrev pub invariant-loop-i : goal.invariant-loop-i
invariant-loop-i l = Storing l.bytes l.initial.out l.out l.i
