-- `find_direct::steps::steps_of` meets its contract: from place 11 on all roots agree, and what is counted below is
-- what demand 3 counts.
-- Assumes nothing.
use mathlib.Core.Path.{refl, ◌∙◌}
use Rattle.find_direct.proofs.Groups.{counted-all, steps-none, steps-are}
use Rattle.find_direct.proofs.steps.steps_of.Goals as goal

pub returns-then-roots-c : goal.returns-then-roots-c
returns-then-roots-c c = steps-none _ _ c.if-roots-c.true

pub steps_under-requires : goal.steps_under-requires
steps_under-requires c = counted-all _ refl

pub returns : goal.returns
returns c = c.steps_under.ensures ∙ steps-are _ _ c.requires
