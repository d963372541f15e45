-- `poly_values::first` meets its contract: one butterfly of two coefficients.
-- Assumes nothing.
use Rattle.poly_values.specs.Planes.{taps11}
use Rattle.poly_values.proofs.Multipliers.{monic11}
use Rattle.poly_values.proofs.Starting.{first-from}
use Rattle.poly_values.proofs.first.Goals as goal

pub returns : goal.returns
returns c = let s = c in first-from taps11 monic11 s.requires.0 s.requires.1 s.requires.2 s.requires.3 c.spread-b.ensures c.multiple-m.ensures c.spread-a.ensures c.sum-s.ensures c.sum-t.ensures c.put_vector.ensures c.put_vector-2.ensures
