-- `poly_powers::trace_mod` meets its contract. The loop's invariant: i terms of the sum are added.
-- Assumes nothing.
use native.Mathlib.Omega.{arith}
use Rattle.poly_powers.proofs.PowerLoops.{trace-from, trace-asks, trace-on, trace-end}
use borrow.Author.Rules.{rules}
use Rattle.poly_powers.proofs.trace_mod.Goals as goal

pub loop-init : goal.loop-init
loop-init c = trace-from _ c.args.tables.now.lent c.requires.0 c.copy_from_slice.ensures.after

pub square_mod-requires : goal.square_mod-requires
square_mod-requires c = (c.loop.invariant.given, omega (arith, c.loop.invariant.long-s))

pub add_to-requires : goal.add_to-requires
add_to-requires c = trace-asks c.loop.invariant c.square_mod.ensures

pub loop-preserved : goal.loop-preserved
loop-preserved c = trace-on c.loop.invariant (omega arith) c.square_mod.ensures (search rules) c.add_to.ensures

pub returns : goal.returns
returns c = trace-end c.loop.invariant (omega arith)
