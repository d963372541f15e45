-- Plain trial of numbers, one after the other.
--   up_from     n numbers in a row, from k
--   keep       what passes a test, in order
--   first_from  the first of n numbers from k on that passes a test; the number behind them where none does
--   All        what holds of each element of a list
--   Ascending  each number is below all behind it
--   Distinct   no element stands twice
-- Assumes nothing.
use Rattle.std.specs.Prelude.{◌≢◌, Bool, cond, List, [], ◌∷◌, ℕ, zero, suc, ◌<◌}

unfoldable pub up_from : ℕ → ℕ → List ℕ
up_from k zero = []
up_from k (suc n) = k ∷ up_from (suc k) n

abbrev pub keep : {K : Type 0} → (K → Bool) → List K → List K
keep t [] = []
keep t (r ∷ s) = cond (t r) (r ∷ keep t s) (keep t s)

unfoldable pub first_from : (ℕ → Bool) → ℕ → ℕ → ℕ
first_from t k zero = k
first_from t k (suc n) = cond (t k) k (first_from t (suc k) n)

abbrev pub All : {A : Type 0} → (A → Type 0) → List A → Type 0
All P [] = Unit {0}
All P (x ∷ s) = P x × All P s

abbrev pub Ascending : List ℕ → Type 0
Ascending [] = Unit {0}
Ascending (x ∷ s) = All (λ y. x < y) s × Ascending s

abbrev pub Distinct : {A : Type 0} → List A → Type 0
Distinct [] = Unit {0}
Distinct (x ∷ s) = All (λ y. x ≢ y) s × Distinct s
