-- `find_direct::steps::trace_word` meets its contract: its number is the trace word as it is told.
-- Assumes nothing.
use mathlib.Core.Path.{refl}
use Rattle.find_direct.specs.Steps.{trace_word}
use Rattle.find_direct.proofs.steps.trace_word.Goals as goal

pub returns : goal.returns
unfolding trace_word
returns c = refl
