-- Lines, by their bytes.
--   sample-numbers   `4 0 1 2 3`, the roots of the first record of docs/RULES.md section 6.4
--   sample-blanks    a tab and a carriage return are blanks, and more than one blank is as one
--   sample-high      what is too high for 16 bits counts as the highest number: `65540`
--   sample-letter    a letter is not legible: `4 x`
-- Assumes nothing.
use mathlib.Core.Path.{◌≡◌, refl}
use mathlib.Core.Bool.{false}
use mathlib.Core.List.{[], ◌∷◌}
use Rattle.job_lists.specs.Lines.{is_digit, is_blank, legible, capped, numbers_from, numbers_of}

pub sample-numbers : numbers_of (52 ∷ 32 ∷ 48 ∷ 32 ∷ 49 ∷ 32 ∷ 50 ∷ 32 ∷ 51 ∷ []) ≡ 4 ∷ 0 ∷ 1 ∷ 2 ∷ 3 ∷ []
unfolding is_digit capped numbers_from
sample-numbers = refl

pub sample-blanks : numbers_of (9 ∷ 49 ∷ 49 ∷ 32 ∷ 9 ∷ 51 ∷ 13 ∷ []) ≡ 11 ∷ 3 ∷ []
unfolding is_digit capped numbers_from
sample-blanks = refl

pub sample-high : numbers_of (54 ∷ 53 ∷ 53 ∷ 52 ∷ 48 ∷ []) ≡ 65535 ∷ []
unfolding is_digit capped numbers_from
sample-high = refl

pub sample-letter : legible (52 ∷ 32 ∷ 120 ∷ []) ≡ false
unfolding is_digit is_blank legible
sample-letter = refl
