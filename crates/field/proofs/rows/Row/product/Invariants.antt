-- `field::rows::Row::product` meets its contract. The loop keeps what `Halfway` says, and what is left of the
-- first factor falls.
-- Assumes nothing.
use Rattle.field.specs.Field.{mul, field_of}
use Rattle.field.proofs.Loops.{Halfway}
use Rattle.field.proofs.rows.Row.product.Given as goal

abbrev pub invariant-loop-x : goal.invariant-loop-x
invariant-loop-x l = Halfway (field_of l.self.degree l.self.poly) (mul (field_of l.self.degree l.self.poly) l.a l.b) l.x l.y l.sum

abbrev pub decreases-loop-x : goal.decreases-loop-x
decreases-loop-x l = l.x
