-- What the plain search answers, for every input (docs/RULES.md section 3.5). The front of the first lent list is
-- then the roots, ascending, and that of the second their multiplicities.
--   search_tests     its tests in their order, each behind its number
--   search_outcome   its outcome: the number of roots
--   Searches        THE CONTRACT: the answers and lists that the search admits
-- Assumes nothing.
use Rattle.std.specs.Prelude.{Bool, List, [], ◌∷◌, ℕ, length, Result}
use Rattle.refusals.specs.Order.{outcome}
use Rattle.refusals.specs.Admitting.{told}
use Rattle.refusals.specs.declared.Refusal.{Refusal}
use Rattle.field.specs.Field.{roots_at}
use Rattle.input.specs.RootMemory.{room_tests, ListsRoots}
use Rattle.input.specs.Polynomials.{polynomial_tests}

abbrev pub search_tests : ℕ → List ℕ → List ℕ → List ℕ → List (ℕ × Bool)
search_tests m cs roots mults = polynomial_tests m cs (room_tests roots mults)

abbrev pub search_outcome : ℕ → List ℕ → List ℕ → List ℕ → ℕ × List ℕ
search_outcome m cs roots mults = outcome (search_tests m cs roots mults) (length (roots_at m cs) ∷ [])

-- the contract: an answer, and the lent lists afterwards
abbrev pub Searches : ℕ → List ℕ → List ℕ → List ℕ → Result ℕ Refusal → List ℕ → List ℕ → Type 0
Searches m cs roots mults r =
    ListsRoots (search_tests m cs roots mults) (length (roots_at m cs) ∷ []) m cs roots mults (told (λ s. s ∷ []) r)
