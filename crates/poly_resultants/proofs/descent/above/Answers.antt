-- `poly_resultants::descent::above` meets its contract.
-- Assumes nothing.
use mathlib.Core.Path.{refl}
use native.Mathlib.Nat.{pos_of_ne-zero}
use Rattle.poly_resultants.proofs.Steps.{above-pair, above-both, above-value, above_low, above-one}
use Rattle.poly_resultants.proofs.descent.above.Goals as goal

pub values_of-v-requires : goal.values_of-v-requires
values_of-v-requires c = above-pair c.args.tables.now.lent c.requires

pub returns-then-w-eq0 : goal.returns-then-w-eq0
returns-then-w-eq0 c = above-both c.args.tables.now.lent c.requires c.values_of-v.ensures.high c.if-w-eq0.true c.both.ensures

pub quotient-requires : goal.quotient-requires
quotient-requires c = (pos_of_ne-zero c.if-w-eq0.false, above-value c.args.tables.now.lent c.requires c.values_of-v.ensures.high, above_low c.args.tables.now.lent c.requires c.values_of-v.ensures.low)

pub returns : goal.returns
returns c = above-one c.args.tables.now.lent c.requires c.values_of-v.ensures.low c.values_of-v.ensures.high c.if-w-eq0.false refl c.quotient.ensures
