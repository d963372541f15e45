-- `field_constants::tables::half11` meets its contract: field 11 is known.
-- Assumes nothing.
use Rattle.field.proofs.Known.{row11}
use Rattle.field_constants.proofs.tables.half11.Goals as goal

pub halves_of-requires : goal.halves_of-requires
halves_of-requires c = row11.degree
