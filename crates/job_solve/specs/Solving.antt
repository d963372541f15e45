-- An accepted record.
--   cutoff_of   the number of the cutoff that a record asks for: 0 where it states none
--   Accepted   a record with these coefficients passed the reader's tests
-- Assumes nothing.
use Rattle.std.specs.Prelude.{List, ℕ}
use Rattle.refusals.specs.Order.{Passed}
use Rattle.job_records.specs.Cutoffs.{stated_by, asked}
use Rattle.job_records.specs.Reading.{call_tests}
use Rattle.job_records.specs.declared.Job.{Job}

abbrev pub cutoff_of : Job → ℕ
cutoff_of j = asked (stated_by j.cutoff)

pub record Accepted (j : Job) (cs : List ℕ) : Type 0 where
  pub passed : Passed (call_tests j.m (cutoff_of j) cs)
