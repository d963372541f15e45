-- The two lent lists of a call that finds all roots of a polynomial: the roots, and beside each its multiplicity.
--   room_tests           the tests of their room, that of the root list first
--   root_memory          the root list afterwards: the roots fill its front; it is as it was where the call's tests
--                       refuse
--   multiplicity_memory  the same of the multiplicities and the second list
--   ListsRoots          THE SHAPE OF THE CONTRACT: what an answer tells, and what both lists hold afterwards
-- Assumes nothing.
use Rattle.std.specs.Prelude.{◌≡◌, Bool, List, [], ◌∷◌, ℕ, ltb, length}
use Rattle.refusals.specs.Order.{outcome, memory}
use Rattle.slices.specs.Lists.{copied}
use Rattle.field.specs.Field.{roots_at, multiplicities_at}
use Rattle.input.specs.Limit.{limit}

abbrev pub room_tests : List ℕ → List ℕ → List (ℕ × Bool)
room_tests roots mults = (7, ltb (length roots) limit) ∷ (7, ltb (length mults) limit) ∷ []

abbrev pub root_memory : List (ℕ × Bool) → ℕ → List ℕ → List ℕ → List ℕ
root_memory tests m cs roots = memory tests (copied (roots_at m cs) roots) roots

abbrev pub multiplicity_memory : List (ℕ × Bool) → ℕ → List ℕ → List ℕ → List ℕ
multiplicity_memory tests m cs mults = memory tests (copied (multiplicities_at m cs) mults) mults

-- decided by tests in their order
pub record ListsRoots (tests : List (ℕ × Bool)) (values : List ℕ) (m : ℕ) (cs roots mults : List ℕ)
    (told : ℕ × List ℕ) (roots' mults' : List ℕ) : Type 0 where
  pub answer : told ≡ outcome tests values
  pub list : roots' ≡ root_memory tests m cs roots
  pub beside : mults' ≡ multiplicity_memory tests m cs mults
