-- The generators of strengths 1 to 8, as numbers. Written by tools/generator_rows.py. What they must be is a law,
-- proofs/Zeros: that of strength t has degree 11 t, and is zero at a, a^3, .., a^(2t-1).
--   polynomials   from strength 1 on
-- Assumes nothing.
use Rattle.std.specs.Prelude.{List, [], ◌∷◌, ℕ}

-- from strength 1 on
abbrev pub polynomials : List ℕ
polynomials = 2053 ∷ 4785585 ∷ 10461277821 ∷ 21067079779265 ∷ 60000916472962765 ∷ 83395291387649875519
    ∷ 177509294585154555957857 ∷ 317645624157077156049808851 ∷ []
