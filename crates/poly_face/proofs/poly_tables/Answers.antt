-- `poly_face::poly_tables` meets its contract: what holds of the tables holds of the rooms.
-- Assumes nothing.
use Rattle.poly_face.proofs.Copies.{lent-in}
use Rattle.poly_face.proofs.poly_tables.Goals as goal

pub returns : goal.returns
returns c = lent-in (record { degree = c.requires.degree; logs = c.logs_of.ensures; antilogs = c.antilogs_of.ensures }, c.requires) (c.copy.ensures, c.copy-2.ensures)
