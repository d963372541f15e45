-- `poly_values::four_multiples` meets its contract: the multiples are stored one after the other.
-- Assumes nothing.
use native.Mathlib.Omega.{arith}
use Rattle.poly_values.specs.Planes.{taps11}
use Rattle.poly_values.proofs.Scalars.{digits11}
use Rattle.poly_values.proofs.Multipliers.{monic11}
use Rattle.poly_values.proofs.Windows.{four-from}
use Rattle.poly_values.proofs.four_multiples.Goals as goal

pub returns : goal.returns
returns c =
    four-from taps11 digits11 monic11 c.args.b (omega arith) c.doubled-d.ensures c.sum-s.ensures
    c.put_vector.ensures c.put_vector-2.ensures c.put_vector-3.ensures
