-- `field_constants::tables::log11` meets its contract: field 11 is known.
-- Assumes nothing.
use Rattle.field.proofs.Known.{row11}
use Rattle.field_constants.proofs.tables.log11.Goals as goal

pub logs_of-requires : goal.logs_of-requires
logs_of-requires c = row11.degree
