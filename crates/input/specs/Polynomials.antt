-- Which polynomials are accepted (docs/RULES.md sections 3.1 and 8.3).
--   polynomial_tests   refusals 1 to 5, of a field degree and a list of coefficients, and the tests that an entry has
--                     behind them
--   PolynomialIn      what is known of a polynomial that was let in
-- Assumes nothing.
use Rattle.std.specs.Prelude.{◌≡◌, Bool, true, false, not, List, ◌∷◌, ℕ, suc, ◌^◌, ◌≤◌, ◌<◌, eqb, ltb, length}
use Rattle.field.specs.Rows.{known}
use Rattle.slices.specs.Bounded.{any_from, all_zero}
use Rattle.algebra.specs.Polynomial.{Below}
use Rattle.input.specs.Limit.{limit}

abbrev pub polynomial_tests : ℕ → List ℕ → List (ℕ × Bool) → List (ℕ × Bool)
polynomial_tests m cs more =
    (1, not (known m)) ∷ (2, eqb (length cs) 0) ∷ (3, ltb (suc limit) (length cs)) ∷ (4, any_from (2 ^ m) cs)
    ∷ (5, all_zero cs) ∷ more

-- in the words of RULES 3.1
pub record PolynomialIn (m : ℕ) (cs : List ℕ) : Type 0 where
  pub field : known m ≡ true
  pub some : 0 < length cs
  pub few : length cs ≤ suc limit
  pub small : Below (2 ^ m) cs
  pub nonzero : all_zero cs ≡ false
