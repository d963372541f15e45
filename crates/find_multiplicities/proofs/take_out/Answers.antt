-- `find_multiplicities::take_out` meets its contract. The loop's invariant: e times z + r was taken out.
-- Assumes nothing.
use mathlib.Core.Path.{◌≡◌, subst}
use native.Mathlib.Omega.{arith}
use lib.ListN.{length}
use Rattle.find_multiplicities.specs.Counting.{Removed}
use Rattle.find_multiplicities.proofs.Removing.{removing-from, removing-asks, removing-stop, removing-divides, removing-on, removing-end}
use Rattle.find_multiplicities.proofs.take_out.Goals as goal

pub loop-e-init : goal.loop-e-init
loop-e-init c = removing-from c.args.tables.now.lent c.requires

pub evaluate-requires : goal.evaluate-requires
evaluate-requires c = removing-asks c.loop-e.invariant

pub returns-then-evaluate-ne0 : goal.returns-then-evaluate-ne0
returns-then-evaluate-ne0 c = removing-stop c.loop-e.invariant c.evaluate.ensures c.if-evaluate-ne0.true

pub divide-requires : goal.divide-requires
divide-requires c = removing-divides c.loop-e.invariant (omega arith)

pub loop-e-preserved : goal.loop-e-preserved
loop-e-preserved c = removing-on c.loop-e.invariant (omega arith) c.evaluate.ensures c.if-evaluate-ne0.false c.divide.ensures

pub returns : goal.returns
returns c =
    let whole : c.loop-e.e ≡ length c.loop-e.f = omega arith in
    subst (λ e. Removed c.args.tables.now.degree c.args.r c.args.f.now e c.loop-e.f) whole (removing-end c.loop-e.invariant (omega arith))
