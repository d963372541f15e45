-- `claims::field_remainder` meets its contract: z is added as the degree says.
-- Assumes nothing.
use native.Mathlib.Omega.{arith}
use Rattle.claims.proofs.Residues.{residue-none, residue-one, residue-more}
use Rattle.claims.proofs.field_remainder.Goals as goal

pub returns-in-empty : goal.returns-in-empty
returns-in-empty c = residue-none c.args.tables.now.lent c.requires c.z_power.ensures (omega arith)

pub returns-in-len1 : goal.returns-in-len1
returns-in-len1 c = residue-one c.args.tables.now.lent c.requires c.z_power.ensures (omega arith)

pub returns-in_default : goal.returns-in_default
returns-in_default c = residue-more c.args.tables.now.lent c.requires c.z_power.ensures (omega arith)
