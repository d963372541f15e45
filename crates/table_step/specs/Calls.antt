-- What a step answers, and what it leaves in the lent table, for every input (docs/RULES.md section 4.3).
--   step_tests     its tests in their order, each behind its number
--   step_outcome   its outcome: the value is 1 where the table is done
--   step_memory    the table afterwards
--   stepped_values    the value of its answer
--   Steps         THE CONTRACT: the answers and tables that a step admits
-- Assumes nothing.
use Rattle.std.specs.Prelude.{Bool, cond, Result, List, [], ◌∷◌, ℕ}
use Rattle.refusals.specs.Order.{outcome, memory, Answers}
use Rattle.refusals.specs.Admitting.{told}
use Rattle.refusals.specs.declared.Refusal.{Refusal}
use Rattle.table_rules.specs.Layout.{by_factor}
use Rattle.table_rules.specs.Splitting.{slots_done, slots_stuck, slots_stepped}
use Rattle.table_slots.specs.Verdicts.{table_tests}
use Rattle.table_step.specs.declared.Stepped.{Stepped}
use Rattle.table_step.specs.declared.Stepped.TheVariants.{Taken, Done}

abbrev pub step_tests : List ℕ → List (ℕ × Bool)
step_tests table = table_tests table ((9, slots_stuck by_factor table) ∷ [])

abbrev pub step_outcome : List ℕ → ℕ × List ℕ
step_outcome table = outcome (step_tests table) (cond (slots_done by_factor table) 1 0 ∷ [])

abbrev pub step_memory : List ℕ → List ℕ
step_memory table = memory (step_tests table) (cond (slots_done by_factor table) table (slots_stepped by_factor table)) table

abbrev pub stepped_values : Stepped → List ℕ
stepped_values Taken = 0 ∷ []
stepped_values Done = 1 ∷ []

-- the contract: an answer, and the lent table afterwards
abbrev pub Steps : List ℕ → Result Stepped Refusal → List ℕ → Type 0
Steps table r after =
    Answers (step_tests table) (cond (slots_done by_factor table) 1 0 ∷ [])
    (cond (slots_done by_factor table) table (slots_stepped by_factor table)) table
    (told stepped_values r) after
