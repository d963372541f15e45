-- `field::rows::Row::inverse` meets its contract: from 1 on the turns come to the inverse.
-- Assumes nothing.
use mathlib.Core.Path.{◌∙◌}
use Rattle.field.proofs.Generator.{generated, small}
use Rattle.field.proofs.Raising.{raised-inverse}
use Rattle.field.proofs.rows.Row.inverse.Goals as goal

pub returns : goal.returns
returns c = let l = c.requires.0 in c.raised.ensures ∙ raised-inverse _ (generated l) _ c.requires.1 c.requires.2 (small l).degree-pos
