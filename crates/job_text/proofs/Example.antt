-- Lines of the records of docs/RULES.md section 6.4.
--   line-one, line-two   of the first two;  line-none  of a polynomial with no root
-- Assumes nothing.
use mathlib.Core.Path.{◌≡◌, refl}
use mathlib.Core.List.{[], ◌∷◌}
use Rattle.job_text.specs.Lines.{decimal_in, decimal, spaced, line_of}

pub line-one : line_of 1 0 4 (1 ∷ 2 ∷ 3 ∷ []) ≡ 49 ∷ 32 ∷ 48 ∷ 32 ∷ 51 ∷ 32 ∷ 52 ∷ 32 ∷ 49 ∷ 32 ∷ 50 ∷ 32 ∷ 51 ∷ 10 ∷ []
unfolding decimal_in decimal spaced
line-one = refl

pub line-two : line_of 2 1 0 [] ≡ 50 ∷ 32 ∷ 49 ∷ 10 ∷ []
unfolding decimal_in decimal spaced
line-two = refl

-- no roots, and no space behind the steps
pub line-none : line_of 120 0 0 [] ≡ 49 ∷ 50 ∷ 48 ∷ 32 ∷ 48 ∷ 32 ∷ 48 ∷ 32 ∷ 48 ∷ 10 ∷ []
unfolding decimal_in decimal spaced
line-none = refl
