-- `poly::product::product_over` meets its contract. The loop's invariant: the product over the roots from i on stands
-- from place i on.
-- Assumes nothing.
use Rattle.poly.proofs.Multiplying.{Multiplying}
use Rattle.poly.proofs.product.product_over.Given as goal

abbrev pub invariant-loop-i : goal.invariant-loop-i
invariant-loop-i l = Multiplying l.tables.degree l.tables.logs.now l.tables.antilogs.now l.roots l.initial.f l.f l.i
