-- `field::rows::Row::squares` meets its contract. The loop keeps what `SquaresTo` says.
-- Assumes nothing.
use Rattle.field.specs.Field.{field_of}
use Rattle.field.proofs.Raising.{SquaresTo}
use Rattle.field.proofs.rows.Row.squares.Given as goal

abbrev pub invariant-loop-i : goal.invariant-loop-i
invariant-loop-i l = SquaresTo (field_of l.self.degree l.self.poly) l.c l.row l.y l.i
