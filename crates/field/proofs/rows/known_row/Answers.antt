-- `field::rows::known_row` meets its contract: a known degree has a row.
-- Assumes nothing.
use Rattle.std.proofs.Common.{◌∙◌, sym}
use Rattle.field.proofs.Known.{some-row, row-known}
use Rattle.field.proofs.rows.known_row.Goals as goal

pub unwrap-requires : goal.unwrap-requires
unwrap-requires c = some-row _ c.requires c.row_of.ensures

pub returns : goal.returns
returns c = row-known _ (sym c.row_of.ensures ∙ c.unwrap.ensures)
