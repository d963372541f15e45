-- The system of an affine polynomial, and its elimination (no algebra: what the loops leave).
--   columns       how many columns a row has: a digit of the root each, and the constant
--   Imaged        the columns as numbers: the terms at 1, 2, 4, .. , the constant, zeros
--   digit_row      digit k of each
--   Rowed         the rows of the system: a row for each digit
--   Units         1, 2, 4, .., 2^n, then zeros
--   pivot_of       the lowest column with a bit; how many there are where there is none
--   IsPivot       it is found, or there is none
--   swept         t added to each entry of a row where another row has a bit
--   swept_by p     so with the row's own entry at p
--   rows_after     the rows behind i turns of the elimination: each sweeps the pivot of its row out of all rows
--   vectors_after  the vectors, swept along
-- Assumes nothing.
use Rattle.std.specs.Prelude.{◌≡◌, cond, List, [], ◌∷◌, map, ℕ, zero, suc, ◌*◌, ◌/◌, ◌%◌, ◌^◌, ◌≤◌, ◌<◌, Option, MatchOption, eqb, length, get_or}
use Rattle.std.specs.Int.Bits.{bit_xor}
use Rattle.input.specs.Limit.{widest}
use Rattle.find_affine.specs.Affine.{terms_at}

abbrev pub columns : ℕ
columns = suc widest

pub record Imaged (m : ℕ) (cs : List ℕ) (constant : ℕ) (images : List ℕ) : Type 0 where
  pub long : length images ≡ columns
  pub digit : (j : ℕ) → j < m → get_or images j 0 ≡ terms_at m cs (2 ^ j)
  pub last : get_or images m 0 ≡ constant
  pub zeros : (j : ℕ) → m < j → get_or images j 0 ≡ 0

abbrev pub digit_row : ℕ → List ℕ → List ℕ
digit_row k images = map (λ a. a / 2 ^ k % 2) images

pub record Rowed (images : List ℕ) (rows : List (List ℕ)) : Type 0 where
  pub long : length rows ≡ widest
  pub row : (k : ℕ) → k < widest → get_or rows k [] ≡ digit_row k images

pub record Units (n : ℕ) (vectors : List ℕ) : Type 0 where
  pub long : length vectors ≡ columns
  pub unit : (j : ℕ) → j ≤ n → get_or vectors j 0 ≡ 2 ^ j
  pub zeros : (j : ℕ) → n < j → get_or vectors j 0 ≡ 0

unfoldable pub pivot_of : List ℕ → ℕ
pivot_of [] = 0
pivot_of (a ∷ s) = cond (eqb a 0) (suc (pivot_of s)) 0

abbrev pub IsPivot : List ℕ → Option ℕ → Type 0
IsPivot row r = MatchOption r (pivot_of row ≡ length row) (λ p. (p ≡ pivot_of row) × (p < columns))

unfoldable pub swept : ℕ → List ℕ → List ℕ → List ℕ
swept t by [] = []
swept t [] (a ∷ s) = a ∷ s
swept t (b ∷ by) (a ∷ s) = bit_xor a (b % 2 * t) ∷ swept t by s

-- where p is no column, nothing is added
abbrev pub swept_by : ℕ → List ℕ → List ℕ → List ℕ
swept_by p by row = swept (get_or row p 0) by row

-- the row of a turn
abbrev pub row_at : ℕ → List (List ℕ) → List ℕ
row_at i rows = get_or rows i []

unfoldable pub rows_after : ℕ → List (List ℕ) → List (List ℕ)
rows_after zero rows = rows
rows_after (suc i) rows =
    let s = rows_after i rows in
    map (swept_by (pivot_of (row_at i s)) (row_at i s)) s

unfoldable pub vectors_after : ℕ → List (List ℕ) → List ℕ → List ℕ
vectors_after zero rows vectors = vectors
vectors_after (suc i) rows vectors =
    let s = rows_after i rows in
    swept_by (pivot_of (row_at i s)) (row_at i s) (vectors_after i rows vectors)
