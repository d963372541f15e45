-- What is decided of a table before anything is written.
--   table_tests  the tests of a table in their order, 7 and 8, each behind its number, and those that a call has behind
--               them
--   Fit         the slots are those of a sound table whose degrees sum up to s
--   Checks      what a check tells: the test that holds, or that none does
--   Chosen      a step can be taken: the table is sound, not done and not stuck, and the first factor above the cutoff
--               is at o
--   Judged      what a verdict tells: the refusal that is given, that the table is done, or where the factor to split
--               stands
-- Assumes nothing.
use Rattle.std.specs.Prelude.{◌≡◌, Bool, true, false, not, Option, Some, None, Result, Ok, Err, List, ◌∷◌, ℕ, length}
use Rattle.refusals.specs.declared.Refusal.{Refusal}
use Rattle.refusals.specs.declared.Refusal.TheVariants.{Room, Unsound, Stuck}
use Rattle.table_rules.specs.Layout.{degree_sum, by_factor}
use Rattle.table_rules.specs.Table.{decode}
use Rattle.table_rules.specs.Splitting.{slots_done, slots_stuck}
use Rattle.table_rules.specs.Places.{place}
use Rattle.table_rules.specs.Sizes.{is_table_size, is_sound}

abbrev pub table_tests : List ℕ → List (ℕ × Bool) → List (ℕ × Bool)
table_tests l more = (7, not (is_table_size (length l))) ∷ (8, not (is_sound l)) ∷ more

pub record Fit (l : List ℕ) (s : ℕ) : Type 0 where
  pub sound : is_sound l ≡ true
  pub sum : s ≡ degree_sum (decode by_factor l).factors

-- the length is tested first
pub data Checks (l : List ℕ) : Result ℕ Refusal → Type 0 where
  short : is_table_size (length l) ≡ false → Checks l (Err Room)
  unsound : is_table_size (length l) ≡ true → is_sound l ≡ false → Checks l (Err Unsound)
  fits : {s : ℕ} → Fit l s → Checks l (Ok s)

-- the place of a step
pub record Chosen (l : List ℕ) (o : ℕ) : Type 0 where
  pub sound : is_sound l ≡ true
  pub free : slots_stuck by_factor l ≡ false
  pub more : slots_done by_factor l ≡ false
  pub at : o ≡ place (decode by_factor l)

-- 9 is tested on a sound table
pub data Judged (l : List ℕ) : Result (Option ℕ) Refusal → Type 0 where
  unfit : {k : Refusal} → Checks l (Err k) → Judged l (Err k)
  stuck : is_sound l ≡ true → slots_stuck by_factor l ≡ true → Judged l (Err Stuck)
  over : is_sound l ≡ true → slots_done by_factor l ≡ true → Judged l (Ok None)
  split : {o : ℕ} → Chosen l o → Judged l (Ok (Some o))
