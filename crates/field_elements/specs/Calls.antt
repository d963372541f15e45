-- What the public element calls answer, for every input (docs/RULES.md section 2; the order of refusals is RULES 8.2).
--   told_answer, told_quadratic   the number and the values of an answer: a refusal's number, or 0 and the values
--   roots_told           the values of a quadratic's answer: how many of its roots are double, and the roots
--   pair_tests, nonzero_tests, position_tests   the tests in their order, each behind its number
--   AdmitsRow            all tests pass and the row is the field's, or the refusal is that of the first that holds
--   position_under       the position of a root under a convention
--   quadratic_values     of a quadratic: whether its one root is double, and its roots
--   product_outcome ..   the outcome of each call: its tests and its value
--   TellsProduct ..     THE CONTRACT of each call: which answers it admits
-- Assumes nothing.
use Rattle.std.specs.Prelude.{Result, Ok, Err, Bool, not, cond, ◌||◌, List, [], ◌∷◌, ◌≡◌, ℕ, ◌-◌, ◌%◌, ◌^◌, eqb, leb, ltb}
use Rattle.refusals.specs.Order.{outcome, Given, Passed}
use Rattle.refusals.specs.Numbers.{number_of}
use Rattle.refusals.specs.Admitting.{told}
use Rattle.refusals.specs.declared.Refusal.{Refusal}
use Rattle.field.specs.Rows.{known, IsRow}
use Rattle.field.specs.declared.rows.Row.{Row}
use Rattle.field.specs.Field.{Field, field_at, order, mul, inverse, position}
use Rattle.field.specs.Quadratics.{roots_in, times_in, doubles}
use Rattle.field.specs.Quadratics.{roots_of_quadratic, multiplicities_of_quadratic}
use Rattle.field.specs.declared.solver.Quadratic.{Quadratic}

abbrev pub told_answer : Result ℕ Refusal → ℕ × List ℕ
told_answer = told (λ v. v ∷ [])

abbrev pub roots_told : Quadratic → List ℕ
roots_told q = doubles (times_in q) ∷ roots_in q

abbrev pub told_quadratic : Result Quadratic Refusal → ℕ × List ℕ
told_quadratic = told roots_told

-- is a no element?
abbrev pub outside : ℕ → ℕ → Bool
outside m a = leb (2 ^ m) a

-- the tests of the calls on two elements, and of those on one that must not be 0
abbrev pub pair_tests : ℕ → ℕ → ℕ → List (ℕ × Bool)
pair_tests m a b = (1, not (known m)) ∷ (4, outside m a || outside m b) ∷ []

abbrev pub nonzero_tests : ℕ → ℕ → List (ℕ × Bool)
nonzero_tests m a = (1, not (known m)) ∷ (4, outside m a) ∷ (13, eqb a 0) ∷ []

-- those of a position, whose convention is 0 or 1
abbrev pub position_tests : ℕ → ℕ → ℕ → List (ℕ × Bool)
position_tests m r convention = (1, not (known m)) ∷ (21, ltb 1 convention) ∷ (4, outside m r) ∷ (13, eqb r 0) ∷ []

-- what the tests find
abbrev pub AdmitsRow : List (ℕ × Bool) → ℕ → Result Row Refusal → Type 0
AdmitsRow tests m (Ok row) = Passed tests × IsRow m row
AdmitsRow tests m (Err k) = Given (number_of k) tests

-- the place of the root r = a^j: j under convention 0, that of Goppa locators, products of (z + X); under 1, that of
-- recorders, products of (1 + X z), whose roots are inverses, (2^m-1-j) modulo (2^m-1)
unfoldable pub position_under : ℕ → Field → ℕ → ℕ
position_under convention F r = cond (eqb convention 0) (position F r) ((order F - position F r) % order F)

-- of a quadratic: how many roots are double, 1 or 0, and then the roots
abbrev pub quadratic_values : Field → ℕ → ℕ → List ℕ
quadratic_values F a b = doubles (multiplicities_of_quadratic F a b) ∷ roots_of_quadratic F a b

-- the outcome of each call
abbrev pub product_outcome : ℕ → ℕ → ℕ → ℕ × List ℕ
product_outcome m a b = outcome (pair_tests m a b) (mul (field_at m) a b ∷ [])

abbrev pub inverse_outcome : ℕ → ℕ → ℕ × List ℕ
inverse_outcome m a = outcome (nonzero_tests m a) (inverse (field_at m) a ∷ [])

abbrev pub position_outcome : ℕ → ℕ → ℕ → ℕ × List ℕ
position_outcome m r convention = outcome (position_tests m r convention) (position_under convention (field_at m) r ∷ [])

abbrev pub quadratic_outcome : ℕ → ℕ → ℕ → ℕ × List ℕ
quadratic_outcome m a b = outcome (pair_tests m a b) (quadratic_values (field_at m) a b)

-- the contract of each call: the answers that it admits
abbrev pub TellsProduct : ℕ → ℕ → ℕ → Result ℕ Refusal → Type 0
TellsProduct m a b r = told_answer r ≡ product_outcome m a b

abbrev pub TellsInverse : ℕ → ℕ → Result ℕ Refusal → Type 0
TellsInverse m a r = told_answer r ≡ inverse_outcome m a

abbrev pub TellsPosition : ℕ → ℕ → ℕ → Result ℕ Refusal → Type 0
TellsPosition m x convention r = told_answer r ≡ position_outcome m x convention

abbrev pub TellsQuadratic : ℕ → ℕ → ℕ → Result Quadratic Refusal → Type 0
TellsQuadratic m a b r = told_quadratic r ≡ quadratic_outcome m a b
