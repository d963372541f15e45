-- `poly_values::top11` meets its contract: one test over the whole table.
-- Assumes nothing.
use Rattle.poly_values.specs.Planes.{digits_number}
use Rattle.poly_values.proofs.Multipliers.{tops11, top_test}
use Rattle.poly_values.proofs.top11.Goals as goal

pub returns : goal.returns
unfolding digits_number top_test
returns c = tops11 _ tt
