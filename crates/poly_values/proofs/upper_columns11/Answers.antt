-- `poly_values::upper_columns11` meets its contract: one test over the whole table.
-- Assumes nothing.
use Rattle.poly_values.specs.Planes.{digits_number}
use Rattle.poly_values.proofs.Multipliers.{columns-table, table_test}
use Rattle.poly_values.proofs.upper_columns11.Goals as goal

pub returns : goal.returns
unfolding digits_number table_test
returns c = columns-table _ _ _ _ _ _ _ tt
