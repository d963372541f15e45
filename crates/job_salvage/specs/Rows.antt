-- What the program `salvage` prints (docs/RULES.md section 11.3).
--   row          a line of numbers: in decimal, one space between, a line feed at the end
--   stretch_row   the line of a dropped stretch: its start and its length
--   count_row     the line of the number of records kept
--   row_room      how many bytes such a line has at most: two numbers of ten digits, a space and a line feed
--   stretch_rows  the lines of stretches, one after the other
--   report_of     all lines of a file: its dropped stretches in file order, and the number of records kept
--   gap_row       the line of a stretch; none where it is empty
--   PrintsFrom   the program's loop, told in words: from a place on, the line of what is dropped before the next
--                record, and then what is printed from its end on
-- Assumes nothing.
use Rattle.std.specs.Prelude.{List, [], ◌∷◌, ◌++◌, ℕ, zero, suc, ◌-◌, ◌≤◌, ◌<◌, length}
use Rattle.job_text.specs.Lines.{decimal, spaced, line_feed}
use Rattle.job_salvage.specs.Pieces.{kept_records, stretches}
use Rattle.job_salvage.specs.Calls.{NextIs}

abbrev pub row : ℕ → List ℕ → List ℕ
row x xs = decimal x ++ (spaced xs ++ (line_feed ∷ []))

abbrev pub stretch_row : ℕ → ℕ → List ℕ
stretch_row start len = row start (len ∷ [])

abbrev pub count_row : ℕ → List ℕ
count_row n = row n []

abbrev pub row_room : ℕ
row_room = 22

-- the stretches, one after the other
unfoldable pub stretch_rows : List (ℕ × ℕ) → List ℕ
stretch_rows [] = []
stretch_rows (s ∷ ss) = stretch_row s.0 s.1 ++ stretch_rows ss

abbrev pub report_of : List ℕ → List ℕ
report_of file = stretch_rows (stretches file) ++ count_row (length (kept_records file))

unfoldable pub gap_row : ℕ → ℕ → List ℕ
gap_row start zero = []
gap_row start (suc n) = stretch_row start (suc n)

-- it ends at the end of the file
pub data PrintsFrom (file : List ℕ) : ℕ → List ℕ → Type 0 where
  over : {at : ℕ} → length file ≤ at → PrintsFrom file at []
  turn : {at start end : ℕ} {text : List ℕ} → at < length file → NextIs file at start end → PrintsFrom file end text
      → PrintsFrom file at (gap_row at (start - at) ++ text)
