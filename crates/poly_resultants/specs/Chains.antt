-- The chains of maps: for each field the constants b of its maps x^2 + b x, which take every element to a number
-- below an end.
--   chain4, below4 ..    the chain of field 4 and its end, and so on
--   chain_of m, end_of m   those of the known field of degree m
--   Chained              every element of the field is taken to a number below e by the maps of the chain
-- Each map halves the elements that are left, down to the numbers below 2^k, of which four in a row are tried side by
-- side.
-- Assumes nothing.
use Rattle.std.specs.Prelude.{cond, List, [], ◌∷◌, ℕ, ◌^◌, ◌<◌, eqb}
use Rattle.algebra.specs.Trial.{All}
use Rattle.field.specs.Field.{G}
use Rattle.poly_resultants.specs.Maps.{tower}
use Rattle.poly_resultants.specs.Levels.{Fours}

-- field 4: onto the numbers below 8
abbrev pub chain4 : List ℕ
chain4 = 1 ∷ []

abbrev pub below4 : ℕ
below4 = 8

-- field 8: below 16
abbrev pub chain8 : List ℕ
chain8 = 136 ∷ 138 ∷ 11 ∷ 1 ∷ []

abbrev pub below8 : ℕ
below8 = 16

-- field 11: below 32
abbrev pub chain11 : List ℕ
chain11 = 1013 ∷ 78 ∷ 483 ∷ 111 ∷ 38 ∷ 8 ∷ []

abbrev pub below11 : ℕ
below11 = 32

-- by the degree
abbrev pub chain_of : ℕ → List ℕ
chain_of m = cond (eqb m 4) chain4 (cond (eqb m 8) chain8 chain11)

abbrev pub end_of : ℕ → ℕ
end_of m = cond (eqb m 4) below4 (cond (eqb m 8) below8 below11)

-- whatever the element
pub record Chained (m : ℕ) (chain : List ℕ) (e : ℕ) : Type 0 where
  pub steps : All (λ b. (0 < b) × (b < 2 ^ m)) chain
  pub fours : Fours m e
  pub reach : (x : ℕ) → x < 2 ^ m → tower (G m) chain x < e
