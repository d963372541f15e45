-- `field_constants::arithmetic::inverse11` meets its contract: the power at the order less the log is the inverse.
-- Assumes nothing.
use Rattle.field.proofs.Known.{row11}
use Rattle.field_constants.proofs.arithmetic.inverse11.Goals as goal

pub tables_of-requires : goal.tables_of-requires
tables_of-requires c = row11.degree
