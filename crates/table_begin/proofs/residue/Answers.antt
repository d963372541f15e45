-- `table_begin::residue` meets its contract: the power by squarings, and z added.
-- Assumes nothing.
use Rattle.table_begin.proofs.SplitPart.{residue-asks, residue-is}
use Rattle.table_begin.proofs.residue.Goals as goal

pub z_powers-requires : goal.z_powers-requires
z_powers-requires c = (residue-asks c.args.tables.now.lent c.requires, c.requires.room-rows)

pub returns : goal.returns
returns c = record { residue = residue-is c.args.tables.now.lent c.requires c.z_powers.ensures.power; rows_are = c.z_powers.ensures.rows_are }
