-- `field::rows::Row::position` meets its contract: the log of a nonzero element is twice its position.
-- Assumes nothing.
use mathlib.Core.Path.{ap, ◌∙◌}
use Prim.Native.Nat.{ℕ, ◌/◌}
use Rattle.field.proofs.Logarithms.{log-half}
use Rattle.field.proofs.rows.Row.position.Goals as goal

pub returns : goal.returns
returns c = ap (λ (n : ℕ). n / 2) (c.requires.0.entry _ c.requires.2) ∙ log-half _ _ c.requires.1
