-- `job_solve::cutoff_in_force` meets its contract: what the record asks for, resolved.
-- Assumes nothing.
use mathlib.Core.Path.{ap, ◌∙◌}
use Rattle.input.specs.Cutoff.{in_force}
use Rattle.job_solve.proofs.cutoff_in_force.Goals as goal

pub returns : goal.returns
returns c = c.in_force.ensures ∙ ap in_force c.asked.ensures
