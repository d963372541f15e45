-- What is promised of the writer of records besides demand 1, of whatever its contract admits.
--   read_back what the reader gives for the record of s roots at the front of a file
--   Writer   the bytes follow from field, cutoff and roots alone; the reader reads them back as one accepted record
--            with that field, cutoff and polynomial; solving it gives the same roots, each simple
-- Assumes nothing.
use Rattle.std.specs.Prelude.{Result, Ok}
use Rattle.refusals.specs.declared.Refusal.{Refusal}
use Rattle.std.specs.Prelude.{◌≡◌, List, [], ◌∷◌, ◌++◌, ℕ, suc, ◌*◌, ◌≤◌, length, take, drop, replicate}
use Rattle.field.specs.Field.{roots_at, multiplicities_at}
use Rattle.input.specs.Limit.{limit}
use Rattle.table_rules.specs.Demand.{steps_at}
use Rattle.find_solve.specs.Calls.{Solves}
use Rattle.find_solve.specs.declared.Solved.{Solved}
use Rattle.job_records.specs.Layout.{head_length, words, part}
use Rattle.job_records.specs.Cutoffs.{stated_cutoff}
use Rattle.job_records.specs.Reading.{Outcome, read_at}
use Rattle.job_records.specs.Files.{Reads}
use Rattle.job_writer.specs.Records.{root_polynomial, record_of, length_for}
use Rattle.job_writer.specs.Calls.{Writes}
use Rattle.demands.specs.Demand2.{Holds}

-- what the reader gives for the record of s roots at the front of a file
abbrev pub read_back : ℕ → ℕ → ℕ → Outcome
read_back m c s = Outcome.gives 0 (length_for s ∷ m ∷ head_length ∷ 2 * suc s ∷ stated_cutoff c)

pub record Writer : Type 0 where
  -- the record stands at the front of the room, and nothing behind it is written; its bytes follow from field, cutoff
  -- and roots alone
  pub front : (m c : ℕ) (roots room : List ℕ) (n : ℕ) (after : List ℕ) → Writes m c roots room (Ok n) after
      → (n ≡ length_for (length roots)) × (take n after ≡ record_of m c roots) × (drop n after ≡ drop n room)
  pub same : (m c : ℕ) (roots room room' : List ℕ) (n n' : ℕ) (after after' : List ℕ)
      → Writes m c roots room (Ok n) after → Writes m c roots room' (Ok n') after'
      → take n after ≡ take n' after'
  -- whatever stands behind it, the reader gives that field, that cutoff as it is stated and, in the coefficient bytes,
  -- that polynomial
  pub read : (m c : ℕ) (roots room : List ℕ) (n : ℕ) (after rest : List ℕ) → Writes m c roots room (Ok n) after
      → (read_at (take n after ++ rest) 0 ≡ read_back m c (length roots))
      × (words (part (take n after ++ rest) head_length (2 * suc (length roots))) ≡ root_polynomial m roots)
  -- it is one record
  pub alone : (m c : ℕ) (roots room : List ℕ) (n : ℕ) (after : List ℕ) → Writes m c roots room (Ok n) after
      → Reads (take n after) 0 (read_back m c (length roots) ∷ [])
  -- its roots are those that were given, each simple
  pub roots : (m c : ℕ) (roots room : List ℕ) (n : ℕ) (after : List ℕ) → Writes m c roots room (Ok n) after
      → (roots_at m (root_polynomial m roots) ≡ roots)
      × (multiplicities_at m (root_polynomial m roots) ≡ replicate (length roots) 1)
  -- so the whole call, on the polynomial of the record at the cutoff that it states, lists them again
  pub solved : (m c : ℕ) (roots room : List ℕ) (n : ℕ) (after list mults : List ℕ) (r : Result Solved Refusal) (x u : List ℕ)
      → Writes m c roots room (Ok n) after → limit ≤ length list → limit ≤ length mults
      → Solves m c (root_polynomial m roots) list mults r x u
      → (r ≡ Ok (record { s = length roots; steps = steps_at m c (root_polynomial m roots) })) × Holds roots list x
      × Holds (replicate (length roots) 1) mults u
