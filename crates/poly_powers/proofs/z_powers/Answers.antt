-- `poly_powers::z_powers` meets its contract: the row of p, z, and the squarings.
-- Assumes nothing.
use mathlib.Core.Path.{sym}
use native.Mathlib.Omega.{arith}
use lib.Seq.{length-take-le}
use Rattle.poly_powers.proofs.Starts.{start-one, begun-savable, begun-saved}
use Rattle.poly_powers.proofs.z_powers.Goals as goal

pub start-requires : goal.start-requires
start-requires c = (c.requires.0, start-one c.args.tables.now.lent c.requires.0, sym (length-take-le _ _ (omega (arith, c.requires.0.few))))

pub power_rows-requires : goal.power_rows-requires
power_rows-requires c = begun-savable c.args.tables.now.lent c.requires.0 c.start.ensures (start-one c.args.tables.now.lent c.requires.0) c.requires.1

pub returns : goal.returns
returns c = begun-saved c.args.tables.now.lent c.requires.0 c.start.ensures c.power_rows.ensures
