-- `poly_values::multipliers11` meets its contract: one test over the whole table.
-- Assumes nothing.
use Rattle.poly_values.specs.Planes.{digits_number}
use Rattle.poly_values.proofs.Multipliers.{tree11, tree_test}
use Rattle.poly_values.proofs.multipliers11.Goals as goal

pub returns : goal.returns
unfolding digits_number tree_test
returns c = tree11 _ tt
