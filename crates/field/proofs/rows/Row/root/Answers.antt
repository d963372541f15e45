-- `field::rows::Row::root` meets its contract: so many squarings leave the square root.
-- Assumes nothing.
use Rattle.field.proofs.Generator.{generated, small, one_below}
use Rattle.field.proofs.Raising.{raised-root}
use Rattle.field.proofs.rows.Row.root.Goals as goal

pub raised-requires : goal.raised-requires
raised-requires c = (c.requires.0, one_below _ (generated c.requires.0), c.requires.1)

pub returns : goal.returns
returns c = rw c.raised.ensures (raised-root _ (generated c.requires.0) (small c.requires.0).degree-pos _ c.requires.1)
