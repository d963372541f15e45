-- The three records of docs/RULES.md section 6.4, salvaged: the second names a field that does not exist.
--   sample-kept      the first and the third are kept
--   sample-dropped   seven bytes are dropped from place 13 on
-- Assumes nothing.
use mathlib.Core.Path.{◌≡◌, refl}
use mathlib.Core.List.{[], ◌∷◌}
use lib.ListN.{take, drop}
use Rattle.refusals.specs.Order.{decide}
use Rattle.field.specs.Rows.{known_in}
use Rattle.slices.specs.Bounded.{all_below}
use Rattle.job_records.specs.Layout.{words}
use Rattle.job_records.specs.Reading.{judged, read_here}
use Rattle.job_records.proofs.Example.{sample}
use Rattle.job_salvage.specs.Pieces.{pieces_behind, records_of, stretch, stretches_from, kept_records, stretches}

pub sample-kept : kept_records sample ≡ take 13 sample ∷ drop 20 sample ∷ []
unfolding read_here judged decide known_in all_below words pieces_behind records_of
sample-kept = refl

pub sample-dropped : stretches sample ≡ (13, 7) ∷ []
unfolding read_here judged decide known_in all_below words pieces_behind stretch stretches_from
sample-dropped = refl
