-- `poly_resultants::map::add_product` meets its contract. The loop's invariant: what lies ahead still wants the rest of the product.
-- Assumes nothing.
use Rattle.poly_resultants.proofs.MapLoops.{Multiplying}
use Rattle.poly_resultants.proofs.map.add_product.Given as goal

abbrev pub invariant-loop-i : goal.invariant-loop-i
invariant-loop-i l = Multiplying l.tables.degree l.tables.logs.now l.tables.antilogs.now l.b l.p l.row l.initial.r l.r l.i
