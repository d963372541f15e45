-- `poly_resultants::descent::values_of` meets its contract.
-- Assumes nothing.
use native.Mathlib.Nat.{pos_of_ne-zero}
use Rattle.poly_resultants.proofs.descent.values_of.Goals as goal

pub evaluate-low-requires : goal.evaluate-low-requires
evaluate-low-requires c = (c.requires.low, c.requires.element)

pub evaluate-high-requires : goal.evaluate-high-requires
evaluate-high-requires c = (c.requires.high, c.requires.element)

pub returns-then-y-eq0 : goal.returns-then-y-eq0
returns-then-y-eq0 c = record { low = c.evaluate-low.ensures; high = c.evaluate-high.ensures }

pub values_at-requires : goal.values_at-requires
values_at-requires c = record { pair = c.requires; positive = pos_of_ne-zero c.if-y-eq0.false }

pub returns : goal.returns
returns c = c.values_at.ensures
