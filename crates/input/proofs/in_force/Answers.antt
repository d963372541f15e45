-- `input::in_force` meets its contract.
-- Assumes nothing.
use mathlib.Core.Path.{sym}
use Rattle.input.specs.Cutoff.{house_default}
use Rattle.input.proofs.Cutoff.{in_force-stated, in_force-house}
use Rattle.input.proofs.in_force.Goals as goal

pub returns-then-cutoff-eq0 : goal.returns-then-cutoff-eq0
returns-then-cutoff-eq0 c = in_force-house _ c.if-cutoff-eq0.true

pub returns : goal.returns
returns c = sym (in_force-stated house_default _ c.if-cutoff-eq0.false)
