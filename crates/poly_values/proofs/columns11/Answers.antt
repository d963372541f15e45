-- `poly_values::columns11` meets its contract: one test over the whole table.
-- Assumes nothing.
use Rattle.poly_values.specs.Planes.{digits_number}
use Rattle.poly_values.proofs.Multipliers.{first-columns, first_test}
use Rattle.poly_values.proofs.columns11.Goals as goal

pub returns : goal.returns
unfolding digits_number first_test
returns c = first-columns _ _ _ _ _ tt
