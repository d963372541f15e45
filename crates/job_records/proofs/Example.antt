-- The three records of docs/RULES.md section 6.4, as they are read.
--   sample          the file
--   sample-reads    what reading it gives: a job at 0, a refusal under 1 at 13, and a job at 20 that states no cutoff
-- Assumes nothing.
use mathlib.Core.Path.{refl}
use mathlib.Core.List.{List, [], ◌∷◌}
use Prim.Native.Nat.{ℕ}
use Rattle.refusals.specs.Order.{decide}
use Rattle.field.specs.Rows.{known_in}
use Rattle.slices.specs.Bounded.{all_below}
use Rattle.job_records.specs.Layout.{words}
use Rattle.job_records.specs.Reading.{Outcome, judged, read_here}
use Rattle.job_records.specs.Files.{Reads}
use Rattle.job_records.specs.Files.Reads.{over, on}

abbrev pub sample : List ℕ
sample =
    0x4C ∷ 0x52 ∷ 4 ∷ 1 ∷ 4 ∷ 6 ∷ 0 ∷ 7 ∷ 0 ∷ 0 ∷ 0 ∷ 1 ∷ 0
    ∷ 0x4C ∷ 0x52 ∷ 5 ∷ 1 ∷ 1 ∷ 1 ∷ 0
    ∷ 0x4C ∷ 0x52 ∷ 4 ∷ 0 ∷ 4 ∷ 1 ∷ 0 ∷ 0 ∷ 0 ∷ 0 ∷ 0 ∷ 1 ∷ 0 ∷ []

pub sample-reads : Reads sample 0 (
    Outcome.gives 0 (13 ∷ 4 ∷ 5 ∷ 8 ∷ 1 ∷ []) ∷ Outcome.gives 1 (20 ∷ []) ∷ Outcome.gives 0 (33 ∷ 4 ∷ 25 ∷ 8 ∷ []) ∷ [])
unfolding read_here judged decide known_in all_below words
sample-reads = on refl (on refl (on refl (over refl)))
