-- The roots of a quadratic, and what the solver answers.
--   roots_of_quadratic           the roots of z^2 + az + b, ascending
--   multiplicities_of_quadratic  beside each its multiplicity
--   roots_in, times_in           the roots that an answer holds, and beside each its multiplicity
--   doubles                    how many of a list of multiplicities are 2
--   SolvesQuadratic            an answer holds the roots, with their multiplicities
-- Assumes nothing.
use Rattle.std.specs.Prelude.{◌≡◌, List, [], ◌∷◌, ℕ, eqb, length}
use Rattle.algebra.specs.Trial.{keep}
use Rattle.algebra.specs.Polynomial.{roots_of}
use Rattle.algebra.specs.Multiplicity.{multiplicities_of}
use Rattle.field.specs.Field.{Field, size, numbers}
use Rattle.field.specs.declared.solver.Quadratic.{Quadratic}
use Rattle.field.specs.declared.solver.Quadratic.TheVariants.{NoRoot, Double, Two}

abbrev pub roots_of_quadratic : Field → ℕ → ℕ → List ℕ
roots_of_quadratic F a b = roots_of (numbers F) (size F) (b ∷ a ∷ 1 ∷ [])

abbrev pub multiplicities_of_quadratic : Field → ℕ → ℕ → List ℕ
multiplicities_of_quadratic F a b = multiplicities_of (numbers F) (b ∷ a ∷ 1 ∷ []) (roots_of_quadratic F a b)

abbrev pub roots_in : Quadratic → List ℕ
roots_in NoRoot = []
roots_in (Double x) = x ∷ []
roots_in (Two x y) = x ∷ y ∷ []

abbrev pub times_in : Quadratic → List ℕ
times_in NoRoot = []
times_in (Double x) = 2 ∷ []
times_in (Two x y) = 1 ∷ 1 ∷ []

abbrev pub doubles : List ℕ → ℕ
doubles es = length (keep (λ e. eqb e 2) es)

-- all of them, and how often each
pub record SolvesQuadratic (F : Field) (a b : ℕ) (r : Quadratic) : Type 0 where
  pub roots : roots_in r ≡ roots_of_quadratic F a b
  pub times : times_in r ≡ multiplicities_of_quadratic F a b
