-- What begin answers, and what it leaves in the lent table, for every input (docs/RULES.md section 4.2).
--   begin_tests                 the tests of begin in their order, each behind its number: those of a polynomial, then
--                              6 and 7
--   begin_outcome, begin_memory  its outcome, and the lent table afterwards
--   Begins                     THE CONTRACT: the answers and tables that begin admits
-- Assumes nothing.
use Rattle.std.specs.Prelude.{Bool, not, Result, ⊤, List, [], ◌∷◌, ℕ, eqb, ltb, length}
use Rattle.refusals.specs.Order.{outcome, memory, Answers}
use Rattle.refusals.specs.Admitting.{told}
use Rattle.refusals.specs.declared.Refusal.{Refusal}
use Rattle.input.specs.Cutoff.{highest_cutoff, in_force}
use Rattle.input.specs.Polynomials.{polynomial_tests}
use Rattle.table_rules.specs.Layout.{by_factor}
use Rattle.table_rules.specs.Sizes.{slots}
use Rattle.table_rules.specs.Splitting.{slots_begun}

abbrev pub begin_tests : ℕ → ℕ → List ℕ → List ℕ → List (ℕ × Bool)
begin_tests m c cs table = polynomial_tests m cs ((6, ltb highest_cutoff c) ∷ (7, not (eqb (length table) slots)) ∷ [])

abbrev pub begin_outcome : ℕ → ℕ → List ℕ → List ℕ → ℕ × List ℕ
begin_outcome m c cs table = outcome (begin_tests m c cs table) []

abbrev pub begin_memory : ℕ → ℕ → List ℕ → List ℕ → List ℕ
begin_memory m c cs table = memory (begin_tests m c cs table) (slots_begun by_factor slots m (in_force c) cs) table

-- the contract: an answer, and the lent table afterwards
abbrev pub Begins : ℕ → ℕ → List ℕ → List ℕ → Result ⊤ Refusal → List ℕ → Type 0
Begins m c cs table r after =
    Answers (begin_tests m c cs table) [] (slots_begun by_factor slots m (in_force c) cs) table (told (λ _. []) r) after
