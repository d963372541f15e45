-- What the outcomes of a job file count (docs/RULES.md section 13.1): for each outcome that the reader gives, its
-- number, and of the record its field, roots, steps and the limit of its steps.
--   Entry           an outcome: its number, and the record's field, roots, steps and limit
--   number_given     the number of an outcome of the reader;  number_here  of that at the front of bytes
--   goes_on          is the record at the front of bytes complete, so that reading goes on behind it?
--   entry_here       the entry of the record at the front of bytes
--   entries_behind   the entries of bytes whose first k belong to the record before
--   entries         THE ENTRIES OF A FILE, in order: the record that stands first has number 1
-- Assumes nothing.
use Rattle.std.specs.Prelude.{ℕ, zero, suc, ◌-◌, Bool, true, false, cond, List, [], ◌∷◌, length}
use Rattle.refusals.specs.Order.{decide}
use Rattle.field.specs.Field.{roots_at}
use Rattle.input.specs.Cutoff.{in_force}
use Rattle.table_rules.specs.Demand.{steps_at}
use Rattle.table_rules.specs.Table.{step_limit}
use Rattle.job_records.specs.Layout.{degree_byte, cutoff_byte, record_length, coefficients}
use Rattle.job_records.specs.Reading.{Outcome, start_tests, read_here}

-- roots, steps and limit are those of an accepted record
pub record Entry : Type 0 where
  pub number : ℕ
  pub field : ℕ
  pub roots : ℕ
  pub steps : ℕ
  pub limit : ℕ

abbrev pub number_given : Outcome → ℕ
number_given Outcome.ends = 0
number_given (Outcome.gives k values) = k

-- what stands before them does not matter
abbrev pub number_here : List ℕ → ℕ
number_here rest = number_given (read_here 0 rest)

-- after 11 and 12 reading stops
abbrev pub goes_on : List ℕ → Bool
goes_on rest = decide (start_tests rest) (λ k. false) true

-- how many roots the whole call finds, and its steps and their limit at the cutoff in force
unfoldable pub entry_here : List ℕ → Entry
entry_here rest =
    let m : ℕ = degree_byte rest in
    let c : ℕ = cutoff_byte rest in
    let s : ℕ = length (roots_at m (coefficients rest)) in
    record {
      number = number_here rest;
      field = m;
      roots = s;
      steps = steps_at m c (coefficients rest);
      limit = step_limit m (in_force c) s;
    }

-- behind a complete record it goes on
unfoldable pub entries_behind : ℕ → List ℕ → List Entry
entries_behind k [] = []
entries_behind (suc k) (b ∷ bs) = entries_behind k bs
entries_behind zero (b ∷ bs) =
    entry_here (b ∷ bs) ∷ cond (goes_on (b ∷ bs)) (entries_behind (record_length (b ∷ bs) - 1) bs) []

abbrev pub entries : List ℕ → List Entry
entries file = entries_behind 0 file
