-- What finish answers, and what it leaves in the lent list, for every input (docs/RULES.md section 4.4).
--   finish_tests     its tests in their order, each behind its number
--   finish_outcome   its outcome: the number of roots
--   finish_memory    the list afterwards: the roots fill its front
--   Finishes        THE CONTRACT: the answers and lists that finish admits
-- Assumes nothing.
use Rattle.std.specs.Prelude.{Bool, not, ◌||◌, Result, List, [], ◌∷◌, ℕ, ltb, length}
use Rattle.refusals.specs.Order.{outcome, memory, Answers}
use Rattle.refusals.specs.Admitting.{told}
use Rattle.refusals.specs.declared.Refusal.{Refusal}
use Rattle.slices.specs.Lists.{copied}
use Rattle.input.specs.Limit.{limit}
use Rattle.table_rules.specs.Layout.{by_factor}
use Rattle.table_rules.specs.Sizes.{is_table_size, is_sound}
use Rattle.table_rules.specs.Splitting.{slots_done, slots_roots}

abbrev pub finish_tests : List ℕ → List ℕ → List (ℕ × Bool)
finish_tests table list =
    (7, not (is_table_size (length table)) || ltb (length list) limit) ∷ (8, not (is_sound table))
    ∷ (10, not (slots_done by_factor table)) ∷ []

abbrev pub finish_outcome : List ℕ → List ℕ → ℕ × List ℕ
finish_outcome table list = outcome (finish_tests table list) (length (slots_roots by_factor table) ∷ [])

abbrev pub finish_memory : List ℕ → List ℕ → List ℕ
finish_memory table list = memory (finish_tests table list) (copied (slots_roots by_factor table) list) list

-- the contract: an answer, and the lent list afterwards
abbrev pub Finishes : List ℕ → List ℕ → Result ℕ Refusal → List ℕ → Type 0
Finishes table list r after =
    Answers (finish_tests table list) (length (slots_roots by_factor table) ∷ [])
    (copied (slots_roots by_factor table) list) list (told (λ s. s ∷ []) r) after
