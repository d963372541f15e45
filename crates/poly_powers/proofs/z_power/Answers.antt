-- `poly_powers::z_power` meets its contract: the row of p, z, and the squarings.
-- Assumes nothing.
use mathlib.Core.Path.{sym}
use native.Mathlib.Omega.{arith}
use lib.Seq.{length-take-le}
use Rattle.algebra.specs.Routines.{frobenius_mod}
use Rattle.field.specs.Field.{G}
use Rattle.poly_powers.proofs.Starts.{start-one, begun-asks, begun-is}
use Rattle.poly_powers.proofs.z_power.Goals as goal

pub start-requires : goal.start-requires
start-requires c = (c.requires, start-one c.args.tables.now.lent c.requires, sym (length-take-le _ _ (omega (arith, c.requires.few))))

pub power_mod-requires : goal.power_mod-requires
power_mod-requires c = begun-asks c.args.tables.now.lent c.requires c.start.ensures (start-one c.args.tables.now.lent c.requires)

pub returns : goal.returns
returns c = let s = c in begun-is s.args.tables.now.lent s.requires c.start.ensures (λ u v. frobenius_mod (G s.args.tables.now.degree) u s.args.k v) c.power_mod.ensures
