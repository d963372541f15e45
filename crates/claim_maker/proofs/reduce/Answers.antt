-- `claim_maker::reduce` meets its contract: the row, the division, and the quotient times the inverse.
-- Assumes nothing.
use mathlib.Core.Path.{sym, ◌∙◌}
use native.Mathlib.Omega.{arith}
use lib.Seq.{length-take-le}
use Rattle.claim_maker.proofs.Uniting.{reduce-low, reduce-inverts, reduce-rows, reduce-divides, reduce-scales, reduce-is}
use Rattle.claim_maker.proofs.reduce.Goals as goal

pub inverse-c-requires : goal.inverse-c-requires
inverse-c-requires c = reduce-inverts c.args.tables.now.lent c.requires

pub scaled_row-requires : goal.scaled_row-requires
scaled_row-requires c = (reduce-rows c.args.tables.now.lent c.requires c.inverse-c.ensures, length-take-le _ _ (reduce-low c.args.tables.now.lent c.requires) ∙ sym (length-take-le _ _ (omega (arith, c.requires.few))))

pub divide-requires : goal.divide-requires
divide-requires c = reduce-divides c.args.tables.now.lent c.requires c.inverse-c.ensures c.scaled_row.ensures _

pub scale-requires : goal.scale-requires
scale-requires c = reduce-scales c.args.tables.now.lent c.requires c.inverse-c.ensures c.scaled_row.ensures _ c.divide.ensures

pub returns : goal.returns
returns c = reduce-is c.args.tables.now.lent c.requires c.inverse-c.ensures c.scaled_row.ensures _ c.divide.ensures c.scale.ensures
