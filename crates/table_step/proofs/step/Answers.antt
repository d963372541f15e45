-- `table_step::step` meets its contract: what it refuses it leaves, and so it does where nothing is to be split.
-- Assumes nothing.
use Rattle.refusals.proofs.Admitting.{passed-on}
use Rattle.table_step.proofs.Outcomes.{step-refused, step-over, chosen_of, step-taken}
use Rattle.table_step.proofs.step.Goals as goal

pub returns-in_err-o : goal.returns-in_err-o
returns-in_err-o c = rw (passed-on _ c.from_residual.ensures.1) (step-refused c.in_err-o.ensures)

pub returns-in_default : goal.returns-in_default
returns-in_default c = step-over (rw c.in_default.is at c.in_ok-o.ensures)

pub step_in-requires : goal.step_in-requires
step_in-requires c = chosen_of (rw c.in-Some.is at c.in_ok-o.ensures)

pub returns : goal.returns
returns c = step-taken (chosen_of (rw c.in-Some.is at c.in_ok-o.ensures)) c.step_in.ensures
