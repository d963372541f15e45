-- `poly_small::parting::part_at` meets its contract: Tr(bz) modulo the cubic, and the gcd.
-- Assumes nothing.
use mathlib.Core.Path.{refl}
use Rattle.poly_small.proofs.Cubics.{power-asks, part-asks, part-is}
use borrow.Author.Rules.{rules}
use Rattle.poly_small.proofs.parting.part_at.Goals as goal

pub trace_of-requires : goal.trace_of-requires
trace_of-requires c = (power-asks c.args.tables.now.lent c.requires.0 refl, c.requires.1)

pub gcd-requires : goal.gcd-requires
gcd-requires c = part-asks c.args.tables.now.lent c.requires.0 c.requires.1 c.trace_of.ensures (search rules)

pub returns : goal.returns
returns c = part-is c.args.tables.now.lent c.requires.0 c.requires.1 c.trace_of.ensures c.gcd.ensures
