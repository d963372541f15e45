-- Reading a whole file.
--   Reads        reading from a place on meets these outcomes, one after the other, and is then over
--   Halts        reading from a place on, where the record of a number stands, ends so: at the end of the file, or it
--                stops at a record, told by its number, its place and its refusal
--   Complete     bytes are one complete record, whatever its fields say;  AllComplete  each of these is
--   joined_file   the file that records make
--   outcomes_of   what complete records give, one after the other, where the first stands at a place
-- Assumes nothing.
use Rattle.std.specs.Prelude.{◌≡◌, true, List, [], ◌∷◌, ◌++◌, ℕ, ◌+◌, length, ⊤, Result, Ok, Err}
use Rattle.refusals.specs.Numbers.{number_of}
use Rattle.job_records.specs.declared.Stop.{Stop}
use Rattle.job_records.specs.Layout.{marked, record_length}
use Rattle.job_records.specs.Reading.{Outcome, judged, read_at}

pub data Reads (file : List ℕ) : ℕ → List Outcome → Type 0 where
  over : {at : ℕ} → read_at file at ≡ Outcome.ends → Reads file at []
  stop : {at k : ℕ} → read_at file at ≡ Outcome.gives k [] → Reads file at (Outcome.gives k [] ∷ [])
  on : {at k next : ℕ} {values : List ℕ} {os : List Outcome} → read_at file at ≡ Outcome.gives k (next ∷ values)
      → Reads file next os
      → Reads file at (Outcome.gives k (next ∷ values) ∷ os)

pub data Halts (file : List ℕ) : ℕ → ℕ → Result ⊤ Stop → Type 0 where
  over : {at k : ℕ} → read_at file at ≡ Outcome.ends → Halts file at k (Ok tt)
  stop : {at k : ℕ} {s : Stop} → read_at file at ≡ Outcome.gives (number_of s.refusal) [] → s.at ≡ at
      → s.record_number ≡ k → Halts file at k (Err s)
  on : {at k number next : ℕ} {values : List ℕ} {r : Result ⊤ Stop} → read_at file at ≡ Outcome.gives number (next ∷ values)
      → Halts file next (k + 1) r → Halts file at k r

pub record Complete (r : List ℕ) : Type 0 where
  pub mark : marked r ≡ true
  pub whole : length r ≡ record_length r

unfoldable pub joined_file : List (List ℕ) → List ℕ
joined_file [] = []
joined_file (r ∷ rs) = r ++ joined_file rs

-- the next stands behind the one before
unfoldable pub outcomes_of : ℕ → List (List ℕ) → List Outcome
outcomes_of at [] = []
outcomes_of at (r ∷ rs) = judged at r ∷ outcomes_of (at + length r) rs

-- each of them is complete
pub data AllComplete : List (List ℕ) → Type 0 where
  none : AllComplete []
  one : {r : List ℕ} {rs : List (List ℕ)} → Complete r → AllComplete rs → AllComplete (r ∷ rs)
