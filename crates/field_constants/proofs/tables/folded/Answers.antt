-- `field_constants::tables::folded` meets its contract: the digits from 11 on are folded back.
-- Assumes nothing.
use borrow.Author.Rules.{rules}
use Rattle.field_constants.specs.Entries.{folded}
use Rattle.field_constants.proofs.tables.folded.Goals as goal

pub returns : goal.returns
unfolding folded
returns c = search rules
