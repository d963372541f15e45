-- `poly_values::squares11` meets its contract: one test over the whole table.
-- Assumes nothing.
use Rattle.poly_values.specs.Planes.{digits_number}
use Rattle.poly_values.proofs.Multipliers.{squares11 as table, square_test}
use Rattle.poly_values.proofs.squares11.Goals as goal

pub returns : goal.returns
unfolding digits_number square_test
returns c = table _ tt
