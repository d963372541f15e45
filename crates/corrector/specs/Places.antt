-- The places that a locator polynomial names, and how they are judged and flipped.
-- Inner contracts alone cite it: what the corrector promises does not rest on it.
--   xor_over g js               the sum of g(j) over the places j
--   places_of p                 the positions of the roots of p under the recorders' convention
--   sum_at js i                 the sum of a^(ij) over the places j
--   Acceptable odd t js        at most t places, whose first t odd power sums are the odd syndromes;  Agrees  only
--                              that
--   Apart js                   distinct places of a word
--   named s t                  the places that the register names after t turns on the power sums s
--   flip_all js bytes           the bytes, with bit j flipped for each place j
--   Findable p list            a locator polynomial, and room for its roots
--   IsRoot r                    a root that has a place
--   Named js t n list           these places, at most t, stand at the front of a list
--   Placeable js                distinct places of a word, at most eight
--   Agreed                      places flipped where these are their first odd power sums
--   Mended odd t                acceptable places flipped;  Unacceptable  those that the register names are not
-- Assumes nothing.
use Rattle.std.specs.Prelude.{◌≡◌, List, [], ◌∷◌, map, ℕ, suc, ◌*◌, ◌/◌, ◌%◌, ◌^◌, ◌≤◌, ◌<◌, length, get_or, set, Option, MatchOption}
use Rattle.std.specs.Int.Bits.{bit_xor}
use Rattle.algebra.specs.Field.{power}
use Rattle.algebra.specs.Trial.{All, Distinct}
use Rattle.field.specs.Field.{field_at, roots_at}
use Rattle.field_elements.specs.Calls.{position_under}
use Rattle.input.specs.Limit.{limit}
use Rattle.input.specs.Polynomials.{PolynomialIn}
use Rattle.poly_small.specs.Roots.{Front}
use Rattle.corrector_code.specs.Eleven.{F11}
use Rattle.corrector_code.specs.Key.{register}
use Rattle.corrector_locator.specs.Under.{PowerSums}

-- the sum of g over a list
unfoldable pub xor_over : (ℕ → ℕ) → List ℕ → ℕ
xor_over g [] = 0
xor_over g (j ∷ js) = bit_xor (g j) (xor_over g js)

-- the places of the roots of p
unfoldable pub places_of : List ℕ → List ℕ
places_of p = map (position_under 1 (field_at 11)) (roots_at 11 p)

-- the i-th power sum of the places
abbrev pub sum_at : List ℕ → ℕ → ℕ
sum_at js i = xor_over (λ j. power F11 (power F11 2 j) i) js

-- what the code flips
pub record Acceptable (odd : List ℕ) (t : ℕ) (js : List ℕ) : Type 0 where
  pub few : length js ≤ t
  pub sums : (i : ℕ) → i < t → sum_at js (suc (2 * i)) ≡ get_or odd i 0

-- distinct places of a word
pub record Apart (js : List ℕ) : Type 0 where
  pub distinct : Distinct js
  pub below : All (λ j. j < 2047) js

-- what the register names
unfoldable pub named : List ℕ → ℕ → List ℕ
named s t = places_of (register F11 8 (λ j. get_or s j 0) t).locator

-- the bytes, with a bit flipped for each place
unfoldable pub flip_all : List ℕ → List ℕ → List ℕ
flip_all [] bytes = bytes
flip_all (j ∷ js) bytes = flip_all js (set bytes (j / 8) (bit_xor (get_or bytes (j / 8) 0) (2 ^ (j % 8))))

-- a locator polynomial, and room for its roots
pub record Findable (p list : List ℕ) : Type 0 where
  pub polynomial : PolynomialIn 11 p
  pub room : limit ≤ length list

-- a root that has a place
abbrev pub IsRoot : ℕ → Type 0
IsRoot r = (0 < r) × (r < 2048)

-- these, at most t, at the front of a list
pub record Named (js : List ℕ) (t n : ℕ) (list : List ℕ) : Type 0 where
  pub front : Front js n list
  pub few : n ≤ t

-- distinct places of a word, at most eight
pub record Placeable (js : List ℕ) : Type 0 where
  pub apart : Apart js
  pub few : length js ≤ 8

-- the first t odd power sums are these
abbrev pub Agrees : List ℕ → ℕ → List ℕ → Type 0
Agrees odd t js = (i : ℕ) → i < t → sum_at js (suc (2 * i)) ≡ get_or odd i 0

-- flipped where all of these are the first odd power sums
abbrev pub Agreed : List ℕ → List ℕ → List ℕ → Option ℕ → List ℕ → Type 0
Agreed odd js word flips after =
    MatchOption flips ((after ≡ word) × (Agrees odd (length odd) js → ⊥))
    (λ n. (n ≡ length js) × Agrees odd (length odd) js × (after ≡ flip_all js word))

-- acceptable places were flipped
pub record Mended (odd : List ℕ) (t : ℕ) (word : List ℕ) (n : ℕ) (after : List ℕ) : Type 0 where
  pub places : List ℕ
  pub apart : Apart places
  pub right : Acceptable odd t places
  pub count : n ≡ length places
  pub flips : after ≡ flip_all places word

-- the places that the register names are not acceptable
abbrev pub Unacceptable : List ℕ → ℕ → Type 0
Unacceptable odd t = (s : List ℕ) × PowerSums odd s × (Acceptable odd t (named s t) → ⊥)
