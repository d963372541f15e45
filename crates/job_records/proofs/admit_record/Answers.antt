-- `job_records::admit_record` meets its contract: the number of coefficients is stated, and the largest of them is
-- that of the words.
-- Assumes nothing.
use mathlib.Core.Path.{sym}
use mathlib.Core.List.{[], ◌∷◌}
use native.Mathlib.Omega.{arith}
use lib.Dec.{ltb}
use Rattle.input.proofs.PolynomialTests.{values-admit}
use Rattle.job_records.specs.Layout.{words}
use Rattle.input.specs.Cutoff.{highest_cutoff}
use Rattle.job_records.proofs.Words.{whole_words}
use Rattle.job_records.proofs.admit_record.Goals as goal

pub returns : goal.returns
returns c =
    let l = c in
    let a = l.args in
    values-admit a.m (words a.bytes.now) ((6, ltb highest_cutoff a.c) ∷ []) c.admit_call.result
    (record { count = sym (whole_words a.bytes.now a.n (omega arith)); largest = l.largest.ensures.largest })
    c.admit_call.ensures
