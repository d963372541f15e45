-- `poly_powers::trace_of` meets its contract: the row of p, bz, and the sum of its squares.
-- Assumes nothing.
use mathlib.Core.Path.{sym, ◌∙◌}
use native.Mathlib.Omega.{arith}
use lib.Seq.{length-take-le}
use Rattle.algebra.specs.Routines.{trace_mod}
use Rattle.field.specs.Field.{G}
use Rattle.poly_powers.proofs.Starts.{start-room, begun-long, low-started, begun-asks, begun-is}
use Rattle.poly_powers.proofs.trace_of.Goals as goal

pub start-requires : goal.start-requires
start-requires c = (start-room c.args.tables.now.lent c.requires.0, c.requires.1, sym (length-take-le _ _ (omega (arith, c.requires.0.few))))

pub trace_mod-requires : goal.trace_mod-requires
trace_mod-requires c = (begun-asks c.args.tables.now.lent c.requires.0 (low-started c.args.tables.now.lent c.requires.0 c.start.ensures) c.requires.1, c.requires.0.room ∙ sym (begun-long c.args.tables.now.lent c.requires.0 c.start.ensures))

pub returns : goal.returns
returns c = let s = c in begun-is s.args.tables.now.lent s.requires.0 (low-started c.args.tables.now.lent c.requires.0 c.start.ensures) (λ u v. trace_mod (G s.args.tables.now.degree) u s.args.tables.now.degree v) c.trace_mod.ensures
