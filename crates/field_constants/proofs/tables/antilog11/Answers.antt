-- `field_constants::tables::antilog11` meets its contract: field 11 is known.
-- Assumes nothing.
use Rattle.field.proofs.Known.{row11}
use Rattle.field_constants.proofs.tables.antilog11.Goals as goal

pub antilogs_of-requires : goal.antilogs_of-requires
antilogs_of-requires c = row11.degree
