-- What an entry's tests find, and what its answer tells.
--   Admits     all tests pass, or the refusal is that of the first that holds
--   with_test  what is found with one test more, behind the others
--   told       0 and the values of an answer, or a refusal's number and nothing else
-- Assumes nothing.
use Rattle.std.specs.Prelude.{Bool, cond, List, [], ℕ, ⊤, Result, Ok, Err}
use Rattle.refusals.specs.Order.{Given, Passed}
use Rattle.refusals.specs.Numbers.{number_of}
use Rattle.refusals.specs.declared.Refusal.{Refusal}

abbrev pub Admits : List (ℕ × Bool) → Result ⊤ Refusal → Type 0
Admits tests (Ok _) = Passed tests
Admits tests (Err k) = Given (number_of k) tests

-- a refusal stands; what was let in is turned away where the test holds
abbrev pub with_test : Result ⊤ Refusal → Bool → Refusal → Result ⊤ Refusal
with_test (Ok u) holds k = cond holds (Err k) (Ok u)
with_test (Err j) holds k = Err j

-- `values` says what an answer tells beside the number 0
abbrev pub told : {A : Type 0} → (A → List ℕ) → Result A Refusal → ℕ × List ℕ
told values (Ok a) = (0, values a)
told values (Err k) = (number_of k, [])
