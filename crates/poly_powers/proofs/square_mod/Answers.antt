-- `poly_powers::square_mod` meets its contract: the square is written out, divided, and the remainder copied back.
-- Assumes nothing.
use Rattle.poly_powers.proofs.PowerLoops.{square-room, square-asks, square-is}
use Rattle.poly_powers.proofs.square_mod.Goals as goal

pub square_into-requires : goal.square_into-requires
square_into-requires c = square-room c.args.tables.now.lent c.requires.0 _ c.requires.1

pub divide-requires : goal.divide-requires
divide-requires c = square-asks c.args.tables.now.lent c.requires.0 _ c.square_into.ensures

pub returns : goal.returns
returns c = square-is c.args.tables.now.lent c.requires.0 _ c.square_into.ensures c.divide.ensures _ c.copy_from_slice.ensures.after
