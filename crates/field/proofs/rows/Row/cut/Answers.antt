-- `field::rows::Row::cut` meets its contract: its code is the definition.
-- Assumes nothing.
use borrow.Author.Rules.{rules}
use Rattle.field.specs.Field.{cut}
use Rattle.field.proofs.rows.Row.cut.Goals as goal

pub returns : goal.returns
unfolding cut
returns c = search rules
