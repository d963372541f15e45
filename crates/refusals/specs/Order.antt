-- Refusals in a fixed order (docs/RULES.md section 8.1). An entry has a list of tests, each behind its number; the
-- first that holds refuses under that number.
--   decide   what an entry gives: `refuse k` where k stands beside the first test that holds, `accept` where none
--            holds
--   outcome  the outcome: a refusal's number and nothing else, or 0 and the values
--   memory   what lent memory holds afterwards: a refusal writes nothing
--   Answers  THE SHAPE OF A CONTRACT: what an answer tells, and what lent memory holds afterwards, both decided by
--            tests in their order
--   Given k  the test beside k holds, and none before it does
--   Passed   no test holds
-- Assumes nothing.
use Rattle.std.specs.Prelude.{Bool, true, false, cond, List, [], ◌∷◌, ◌≡◌, ℕ}

unfoldable pub decide : {A : Type 0} → List (ℕ × Bool) → (ℕ → A) → A → A
decide [] refuse accept = accept
decide (t ∷ ts) refuse accept = cond t.1 (refuse t.0) (decide ts refuse accept)

abbrev pub outcome : List (ℕ × Bool) → List ℕ → ℕ × List ℕ
outcome tests values = decide tests (λ k. (k, [])) (0, values)

abbrev pub memory : List (ℕ × Bool) → List ℕ → List ℕ → List ℕ
memory tests new old = decide tests (λ k. old) new

abbrev pub Answers : List (ℕ × Bool) → List ℕ → List ℕ → List ℕ → ℕ × List ℕ → List ℕ → Type 0
Answers tests values new old told after = (told ≡ outcome tests values) × (after ≡ memory tests new old)

pub data Given (k : ℕ) : List (ℕ × Bool) → Type 0 where
  here : {ts : List (ℕ × Bool)} → Given k ((k, true) ∷ ts)
  later : {j : ℕ} {ts : List (ℕ × Bool)} → Given k ts → Given k ((j, false) ∷ ts)

pub data Passed : List (ℕ × Bool) → Type 0 where
  none : Passed []
  more : {j : ℕ} {ts : List (ℕ × Bool)} → Passed ts → Passed ((j, false) ∷ ts)
