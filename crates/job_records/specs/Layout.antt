-- The bytes of a job record (docs/RULES.md section 5.1), counted from its first: two of the mark, then m, cutoff and
-- n, then n coefficients of two bytes, low byte first.
--   mark_low, mark_high   the mark
--   marked              does a record begin with its mark?
--   head_length          how many bytes stand before the coefficients
--   count_byte           n of a record
--   body_length, record_length   how many bytes its coefficients have, and how many it has in all
--   degree_byte, cutoff_byte     m and the cutoff of a record
--   word, words         the number of two bytes, and the numbers of many
--   part                len bytes from start on, as far as there are so many
--   coefficients        the coefficients of a record
-- Assumes nothing.
use Rattle.std.specs.Prelude.{Bool, ◌&&◌, List, [], ◌∷◌, ℕ, ◌+◌, ◌*◌, get_or, take, drop, eqb}

-- ---- its mark

abbrev pub mark_low : ℕ
mark_low = 0x4C

abbrev pub mark_high : ℕ
mark_high = 0x52

abbrev pub marked : List ℕ → Bool
marked r = eqb (get_or r 0 0) mark_low && eqb (get_or r 1 0) mark_high

-- ---- how long it is

abbrev pub head_length : ℕ
head_length = 5

abbrev pub count_byte : List ℕ → ℕ
count_byte r = get_or r 4 0

abbrev pub body_length : List ℕ → ℕ
body_length r = 2 * count_byte r

abbrev pub record_length : List ℕ → ℕ
record_length r = head_length + body_length r

-- ---- what it says

abbrev pub degree_byte : List ℕ → ℕ
degree_byte r = get_or r 2 0

abbrev pub cutoff_byte : List ℕ → ℕ
cutoff_byte r = get_or r 3 0

abbrev pub word : ℕ → ℕ → ℕ
word low high = low + 256 * high

-- a byte alone at the end spells nothing
unfoldable pub words : List ℕ → List ℕ
words [] = []
words (low ∷ []) = []
words (low ∷ high ∷ bs) = word low high ∷ words bs

abbrev pub part : List ℕ → ℕ → ℕ → List ℕ
part file start len = take len (drop start file)

abbrev pub coefficients : List ℕ → List ℕ
coefficients r = words (part r head_length (body_length r))
