-- `poly_powers::power_mod` meets its contract. The loop's invariant: i squarings are done.
-- Assumes nothing.
use native.Mathlib.Omega.{arith}
use Rattle.poly_powers.proofs.PowerLoops.{power-from, power-on, power-end}
use borrow.Author.Rules.{rules}
use Rattle.poly_powers.proofs.power_mod.Goals as goal

pub loop-init : goal.loop-init
loop-init c = power-from _ _ c.args.tables.now.lent c.requires

pub square_mod-requires : goal.square_mod-requires
square_mod-requires c = (c.loop.invariant.given, omega (arith, c.loop.invariant.long-s))

pub loop-preserved : goal.loop-preserved
loop-preserved c = power-on c.loop.invariant (omega arith) c.square_mod.ensures (search rules)

pub returns : goal.returns
returns c = power-end c.loop.invariant (omega arith)
