-- `poly::product::times_linear` meets its contract. The loop's invariant: the first i coefficients are the product's.
-- Assumes nothing.
use Rattle.poly.proofs.Stretching.{Stretching}
use Rattle.poly.proofs.product.times_linear.Given as goal

abbrev pub invariant-loop-i : goal.invariant-loop-i
invariant-loop-i l = Stretching l.tables.degree l.tables.logs.now l.tables.antilogs.now l.r l.initial.f l.top l.f l.i
