-- The tests of a polynomial by the number of its coefficients and the largest of them.
--   Largest      a number is below a bound exactly if all of a list are: the largest of them, or 0 where there are
--                none
--   Measured     n is how many coefficients there are, and top the largest of them, where they are not too many
--   value_tests   refusals 1 to 5 by these two numbers, and the tests that an entry has behind them
-- Assumes nothing.
use Rattle.std.specs.Prelude.{◌≡◌, Bool, not, List, ◌∷◌, ℕ, suc, ◌^◌, ◌≤◌, ◌<◌, eqb, ltb, length}
use Rattle.field.specs.Rows.{known}
use Rattle.slices.specs.Bounded.{all_below}
use Rattle.input.specs.Limit.{limit}

pub record Largest (l : List ℕ) (top : ℕ) : Type 0 where
  pub same : (q : ℕ) → 0 < q → all_below q l ≡ ltb top q

pub record Measured (cs : List ℕ) (n top : ℕ) : Type 0 where
  pub count : n ≡ length cs
  pub largest : length cs ≤ suc limit → Largest cs top

abbrev pub value_tests : ℕ → ℕ → ℕ → List (ℕ × Bool) → List (ℕ × Bool)
value_tests m n top more =
    (1, not (known m)) ∷ (2, eqb n 0) ∷ (3, ltb (suc limit) n) ∷ (4, not (ltb top (2 ^ m))) ∷ (5, ltb top 1) ∷ more
