-- `poly_values::lane_product` meets its contract: rows, and the upper words taken back.
-- Assumes nothing.
use mathlib.Core.Path.{refl, ◌∙◌}
use native.Mathlib.Omega.{arith}
use Rattle.poly_values.specs.Planes.{words_at}
use Rattle.poly_values.proofs.Lanes.{take_words}
use Rattle.poly_values.proofs.Products.{product-from}
use Rattle.poly_values.proofs.lane_product.Goals as goal

pub add_rows-requires : goal.add_rows-requires
add_rows-requires c = (refl, c.requires)

pub fold-requires : goal.fold-requires
fold-requires c = c.add_rows.auto.t

pub vector-requires : goal.vector-requires
vector-requires c = omega (arith, c.fold.auto.t, c.add_rows.auto.t)

pub returns : goal.returns
returns c = let s = c in
    let u = c.fold.new.t in
    product-from (words_at 11 s.args.e.now 0) s.args.b u refl c.add_rows.ensures c.fold.ensures
    (c.vector.ensures ∙ take_words 11 u (omega (arith, c.fold.auto.t, c.add_rows.auto.t)))
