-- The figures of docs/RULES.md section 10, in one table: inputs of the whole call with two empty lists of as
-- many slots as they must have, what it answers, and how the work table begins after so many steps, where they say that.
--   Figure   field degree, cutoff, coefficients; the outcome's number and values; the roots where it is accepted;
--            work tables, each behind its steps
--   whole_field   z^16 + z
--   figures  the table
--   room     a lent list of as many slots
--   Right    what is claimed of a figure: the whole call's outcome, the roots, and the work tables
--   figure_after   the slots of a figure's begun table after n steps;  StartsWith  slots begin with a list, and zeros
--                 follow
-- Assumes nothing.
use Rattle.std.specs.Prelude.{◌≡◌, cond, List, [], ◌∷◌, ◌++◌, ℕ, ◌-◌, eqb, length, replicate}
use Rattle.algebra.specs.Trial.{All}
use Rattle.input.specs.Cutoff.{in_force}
use Rattle.input.specs.Limit.{limit}
use Rattle.table_rules.specs.Layout.{by_factor}
use Rattle.field.specs.Field.{roots_at}
use Rattle.table_rules.specs.Splitting.{slots_begun, slots_after}
use Rattle.table_rules.specs.Sizes.{slots}
use Rattle.find_solve.specs.Calls.{solve_outcome}

pub record Figure : Type 0 where
  pub m : ℕ
  pub cutoff : ℕ
  pub coefficients : List ℕ
  pub number : ℕ
  pub steps : ℕ
  pub roots : List ℕ
  pub tables : List (ℕ × List ℕ)

abbrev pub whole_field : List ℕ
whole_field = 0 ∷ 1 ∷ 0 ∷ 0 ∷ 0 ∷ 0 ∷ 0 ∷ 0 ∷ 0 ∷ 0 ∷ 0 ∷ 0 ∷ 0 ∷ 0 ∷ 0 ∷ 0 ∷ 1 ∷ []

-- an accepted polynomial whose splitting is followed: each table stands behind the steps after which it is there
abbrev pub followed_figure : ℕ → ℕ → List ℕ → List ℕ → ℕ → List (ℕ × List ℕ) → Figure
followed_figure m c cs roots steps tables =
    record { m = m; cutoff = c; coefficients = cs; number = 0; steps = steps; roots = roots; tables = tables }

abbrev pub accepted_figure : ℕ → ℕ → List ℕ → List ℕ → ℕ → Figure
accepted_figure m c cs roots steps = followed_figure m c cs roots steps []

abbrev pub refused_figure : ℕ → ℕ → List ℕ → ℕ → Figure
refused_figure m c cs k =
    record { m = m; cutoff = c; coefficients = cs; number = k; steps = 0; roots = []; tables = [] }

abbrev pub every_element : List ℕ
every_element = 0 ∷ 1 ∷ 2 ∷ 3 ∷ 4 ∷ 5 ∷ 6 ∷ 7 ∷ 8 ∷ 9 ∷ 10 ∷ 11 ∷ 12 ∷ 13 ∷ 14 ∷ 15 ∷ []

abbrev pub figures : List Figure
figures =
    followed_figure 4 1 (6 ∷ 7 ∷ 0 ∷ 1 ∷ []) (1 ∷ 2 ∷ 3 ∷ []) 4
    ((3, 4 ∷ 1 ∷ 2 ∷ 3 ∷ 3 ∷ 1 ∷ 1 ∷ 3 ∷ 2 ∷ 6 ∷ 1 ∷ [])
    ∷ (4, 4 ∷ 1 ∷ 3 ∷ 4 ∷ 3 ∷ 1 ∷ 1 ∷ 4 ∷ 1 ∷ 2 ∷ 4 ∷ 1 ∷ 3 ∷ [])
    ∷ [])
    ∷ accepted_figure 4 2 (6 ∷ 7 ∷ 0 ∷ 1 ∷ []) (1 ∷ 2 ∷ 3 ∷ []) 3
    ∷ accepted_figure 4 3 (6 ∷ 7 ∷ 0 ∷ 1 ∷ []) (1 ∷ 2 ∷ 3 ∷ []) 0
    ∷ accepted_figure 4 1 (1 ∷ 0 ∷ 0 ∷ 1 ∷ []) (1 ∷ 6 ∷ 7 ∷ []) 4
    ∷ accepted_figure 4 1 (2 ∷ 0 ∷ 1 ∷ []) (5 ∷ []) 0
    ∷ accepted_figure 4 1 (8 ∷ 1 ∷ 1 ∷ []) [] 0
    ∷ accepted_figure 4 2 (6 ∷ 1 ∷ 1 ∷ []) (2 ∷ 3 ∷ []) 0
    ∷ accepted_figure 4 1 (3 ∷ 2 ∷ []) (8 ∷ []) 0
    ∷ accepted_figure 4 1 (7 ∷ []) [] 0
    ∷ accepted_figure 4 1 whole_field every_element 15
    ∷ accepted_figure 4 2 whole_field every_element 7
    ∷ accepted_figure 4 3 whole_field every_element 7
    ∷ accepted_figure 11 1 (0 ∷ 1 ∷ 1 ∷ 0 ∷ []) (0 ∷ 1 ∷ []) 1
    ∷ refused_figure 4 1 (0 ∷ 0 ∷ []) 5
    ∷ refused_figure 4 1 (16 ∷ 1 ∷ []) 4
    ∷ refused_figure 4 4 (3 ∷ 2 ∷ []) 6
    ∷ accepted_figure 4 3 (3 ∷ 2 ∷ []) (8 ∷ []) 0
    ∷ []

-- the values are the number of roots and of steps; a refusal has none
abbrev pub figure_values : Figure → List ℕ
figure_values f = cond (eqb f.number 0) (length f.roots ∷ f.steps ∷ []) []

-- the figure's work table after n steps
abbrev pub figure_after : Figure → ℕ → List ℕ
figure_after f n = slots_after by_factor n (slots_begun by_factor slots f.m (in_force f.cutoff) f.coefficients)

abbrev pub StartsWith : List ℕ → List ℕ → Type 0
StartsWith l front = l ≡ front ++ replicate (slots - length front) 0

-- as many slots as a list must have
abbrev pub room : List ℕ
room = replicate limit 0

pub record Right (f : Figure) : Type 0 where
  pub outcome : solve_outcome f.m f.cutoff f.coefficients room room ≡ (f.number, figure_values f)
  pub roots : f.number ≡ 0 → roots_at f.m f.coefficients ≡ f.roots
  pub tables : All (λ t. StartsWith (figure_after f t.0) t.1) f.tables
