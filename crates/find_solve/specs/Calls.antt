-- What the whole call answers, for every input (docs/RULES.md section 3.4). The front of the first lent list is then
-- the roots, ascending, and that of the second their multiplicities.
--   solve_tests     its tests in their order, each behind its number
--   solve_outcome   its outcome: the numbers of roots and of steps
--   solved_values   the values of its answer
--   Solves         THE CONTRACT: the answers and lists that the whole call admits
-- Assumes nothing.
use Rattle.std.specs.Prelude.{Bool, Result, List, [], ◌∷◌, ℕ, ltb, length}
use Rattle.refusals.specs.Order.{outcome}
use Rattle.refusals.specs.Admitting.{told}
use Rattle.refusals.specs.declared.Refusal.{Refusal}
use Rattle.input.specs.Cutoff.{highest_cutoff}
use Rattle.input.specs.RootMemory.{room_tests, ListsRoots}
use Rattle.input.specs.Polynomials.{polynomial_tests}
use Rattle.field.specs.Field.{roots_at}
use Rattle.table_rules.specs.Demand.{steps_at}
use Rattle.find_solve.specs.declared.Solved.{Solved}

abbrev pub solve_tests : ℕ → ℕ → List ℕ → List ℕ → List ℕ → List (ℕ × Bool)
solve_tests m c cs roots mults = polynomial_tests m cs ((6, ltb highest_cutoff c) ∷ room_tests roots mults)

abbrev pub solve_outcome : ℕ → ℕ → List ℕ → List ℕ → List ℕ → ℕ × List ℕ
solve_outcome m c cs roots mults = outcome (solve_tests m c cs roots mults) (length (roots_at m cs) ∷ steps_at m c cs ∷ [])

abbrev pub solved_values : Solved → List ℕ
solved_values r = r.s ∷ r.steps ∷ []

-- the contract: an answer, and the lent lists afterwards
abbrev pub Solves : ℕ → ℕ → List ℕ → List ℕ → List ℕ → Result Solved Refusal → List ℕ → List ℕ → Type 0
Solves m c cs roots mults r =
    ListsRoots (solve_tests m c cs roots mults) (length (roots_at m cs) ∷ steps_at m c cs ∷ []) m cs roots mults
    (told solved_values r)
