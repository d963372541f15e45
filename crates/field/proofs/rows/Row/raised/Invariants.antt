-- `field::rows::Row::raised` meets its contract. The loop keeps what `Raising` says.
-- Assumes nothing.
use Rattle.field.specs.Field.{field_of}
use Rattle.field.proofs.Raising.{Raising}
use Rattle.field.proofs.rows.Row.raised.Given as goal

abbrev pub invariant-loop-turn : goal.invariant-loop-turn
invariant-loop-turn l = Raising (field_of l.fn.self.degree l.fn.self.poly) l.c l.x l.y l._turn
