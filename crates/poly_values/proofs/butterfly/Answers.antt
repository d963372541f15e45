-- `poly_values::butterfly` meets its contract: product, two sums, two stores.
-- Assumes nothing.
use Rattle.poly_values.specs.Planes.{taps11, words_at}
use Rattle.poly_values.proofs.Planes.{butterfly-from}
use Rattle.poly_values.proofs.butterfly.Goals as goal

pub returns : goal.returns
returns c = let a = c.args in
    butterfly-from taps11 (words_at 11 a.g.now 0) a.p.now a.up c.vector-a.ensures c.vector-b.ensures c.lane_product-c.ensures
    c.sum-s.ensures c.sum-t.ensures c.put_vector.ensures c.put_vector-2.ensures
