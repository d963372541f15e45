-- AT A HIGHER CUTOFF: the roots of a polynomial do not move, and the steps fall or stay equal. So it is of the house
-- default, which cutoff 0 stands for.
--   Higher   of two cutoffs, what the whole call's contract admits at the one and at the other
-- Assumes nothing.
use Rattle.std.specs.Prelude.{Result}
use Rattle.refusals.specs.declared.Refusal.{Refusal}
use Rattle.std.specs.Prelude.{◌≡◌, List, ℕ, ◌≤◌}
use Rattle.table_rules.specs.Demand.{steps_at}
use Rattle.find_solve.specs.Calls.{Solves}
use Rattle.find_solve.specs.declared.Solved.{Solved}

pub record Higher (m c d : ℕ) (f list mults : List ℕ) : Type 0 where
  -- both lists, accepted or refused
  pub lists : (r s : Result Solved Refusal) (x y u v : List ℕ) → Solves m c f list mults r x u → Solves m d f list mults s y v
      → (x ≡ y) × (u ≡ v)
  pub steps : steps_at m d f ≤ steps_at m c f
