-- The cutoff as a record states it: the house default, or a number.
--   stated_cutoff      what a cutoff byte states: nothing, or its number
--   stated_by          the same of the code's option
--   asked             the number of the cutoff that is asked for: 0 where nothing is stated, which stands for the
--                     house default
-- Assumes nothing.
use Rattle.std.specs.Prelude.{cond, List, [], ◌∷◌, ℕ, eqb, Option, Some, None}

abbrev pub stated_cutoff : ℕ → List ℕ
stated_cutoff c = cond (eqb c 0) [] (c ∷ [])

abbrev pub stated_by : Option ℕ → List ℕ
stated_by None = []
stated_by (Some c) = c ∷ []

abbrev pub asked : List ℕ → ℕ
asked [] = 0
asked (c ∷ l) = c
