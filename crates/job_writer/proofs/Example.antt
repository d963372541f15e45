-- The first record of docs/RULES.md section 6.4, as it is written.
--   sample-written   the record of the field of degree 4, the cutoff 1 and the roots 1, 2 and 3
-- Assumes nothing.
use mathlib.Core.Path.{◌≡◌, refl}
use mathlib.Core.List.{[], ◌∷◌}
use Rattle.algebra.specs.Polynomial.{add, mul, from_roots}
use Rattle.field.specs.Field.{horner_in, horner, carry_free, cut, reduce, mul as times}
use Rattle.field.specs.Rows.{poly_in}
use Rattle.job_writer.specs.Records.{word_bytes, record_of}

pub sample-written : record_of 4 1 (1 ∷ 2 ∷ 3 ∷ [])
    ≡ 0x4C ∷ 0x52 ∷ 4 ∷ 1 ∷ 4 ∷ 6 ∷ 0 ∷ 7 ∷ 0 ∷ 0 ∷ 0 ∷ 1 ∷ 0 ∷ []
unfolding word_bytes from_roots mul add times reduce carry_free horner horner_in cut poly_in
sample-written = refl
