-- The text of a line, as bytes (docs/RULES.md section 6.2).
--   digit_byte      the byte of a digit;  space, line_feed  the other bytes of a line
--   decimal        the decimal digits of a number, the highest first, with no 0 before them
--   decimal_in      the same, in so many divisions by ten
--   spaced         numbers in decimal, a space before each
--   behind_outcome  what a line has behind the outcome
--   line_of         the line of a record: its number, its outcome and, where it is accepted, how many roots there are,
--                  the steps and the roots
--   line_room       how many bytes a line with s roots has at most: ten of its number, six of each other, a line
--                  feed;  longest_line  with the most roots
--   Wrote          a text stands in lent memory from a place on, up to an end; all else is as it was
-- Assumes nothing.
use Rattle.std.specs.Prelude.{◌≡◌, cond, List, [], ◌∷◌, ◌++◌, ℕ, zero, suc, ◌+◌, ◌*◌, ◌/◌, ◌%◌, length, eqb, ltb}
use Rattle.slices.specs.Lists.{pasted}
use Rattle.input.specs.Limit.{limit}

abbrev pub digit_byte : ℕ → ℕ
digit_byte d = 48 + d

abbrev pub space : ℕ
space = 32

abbrev pub line_feed : ℕ
line_feed = 10

-- in at most so many divisions by ten
unfoldable pub decimal_in : ℕ → ℕ → List ℕ
decimal_in zero x = digit_byte x ∷ []
decimal_in (suc n) x = cond (ltb x 10) (digit_byte x ∷ []) (decimal_in n (x / 10) ++ (digit_byte (x % 10) ∷ []))

-- as many as the number says are enough
unfoldable pub decimal : ℕ → List ℕ
decimal x = decimal_in x x

unfoldable pub spaced : List ℕ → List ℕ
spaced [] = []
spaced (x ∷ xs) = space ∷ (decimal x ++ spaced xs)

-- what stands behind the outcome: nothing where the record is refused
abbrev pub behind_outcome : ℕ → ℕ → List ℕ → List ℕ
behind_outcome outcome steps roots = cond (eqb outcome 0) (length roots ∷ steps ∷ roots) []

abbrev pub line_of : ℕ → ℕ → ℕ → List ℕ → List ℕ
line_of k outcome steps roots = decimal k ++ (spaced (outcome ∷ behind_outcome outcome steps roots) ++ (line_feed ∷ []))

abbrev pub line_room : ℕ → ℕ
line_room s = 29 + 6 * s

abbrev pub longest_line : ℕ
longest_line = line_room limit

pub record Wrote (text : List ℕ) (at : ℕ) (old : List ℕ) (end : ℕ) (new : List ℕ) : Type 0 where
  pub ended : end ≡ at + length text
  pub bytes : new ≡ pasted at text old
