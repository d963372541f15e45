-- What is printed for a record, and for a file (docs/RULES.md section 6).
--   turned_line  the line of a record that is refused;  solved_line  of one that is accepted: the roots and the steps of
--               the whole call
--   line_by      the line of a number with the values that reading gave;  line_for  of what reading gave
--   lines_from   the lines of what reading gave, one after the other; the first has the number k
--   LinesOf     a text is the lines of a file
--   on_from      the place to go on, or nothing, of what reading gave
--   Turned      what a turn gives: the line, and the place to go on
--   TurnedBy    the same of what was read, wherever it stands: at every place of a file that gives it with these bytes
--   Ahead       a number lies behind what was read, wherever that stands in a file of at most 65,536 bytes
--   Prints      from a place on these lines are printed, turn by turn
-- Assumes nothing.
use Rattle.std.specs.Prelude.{◌≡◌, List, [], ◌∷◌, ◌++◌, ℕ, ◌+◌, ◌≤◌, length, Option, Some, None}
use Rattle.field.specs.Field.{roots_at}
use Rattle.table_rules.specs.Demand.{steps_at}
use Rattle.job_records.specs.Layout.{head_length, words, part}
use Rattle.job_records.specs.Cutoffs.{asked}
use Rattle.job_records.specs.Reading.{Outcome, told_read, read_at, bytes_of}
use Rattle.job_records.specs.Files.{Reads}
use Rattle.job_records.specs.declared.Read.{Read}
use Rattle.job_text.specs.Lines.{line_of}
use Rattle.job_lines.specs.declared.Turn.{Turn}

abbrev pub turned_line : ℕ → ℕ → List ℕ
turned_line k number = line_of k number 0 []

abbrev pub solved_line : ℕ → ℕ → ℕ → List ℕ → List ℕ
solved_line k m c cs = line_of k 0 (steps_at m c cs) (roots_at m cs)

-- an accepted record has more values than the place to go on
abbrev pub line_by : List ℕ → ℕ → ℕ → List ℕ → List ℕ
line_by file k number [] = turned_line k number
line_by file k number (next ∷ []) = turned_line k number
line_by file k number (next ∷ m ∷ []) = turned_line k number
line_by file k number (next ∷ m ∷ start ∷ []) = turned_line k number
line_by file k number (next ∷ m ∷ start ∷ len ∷ cutoff) = solved_line k m (asked cutoff) (words (part file start len))

-- where reading ends there is no line
abbrev pub line_for : List ℕ → ℕ → Outcome → List ℕ
line_for file k Outcome.ends = []
line_for file k (Outcome.gives number values) = line_by file k number values

unfoldable pub lines_from : List ℕ → ℕ → List Outcome → List ℕ
lines_from file k [] = []
lines_from file k (o ∷ os) = line_for file k o ++ lines_from file (k + 1) os

-- the records in their order, numbered from 1, until the end or 11 or 12
pub record LinesOf (file text : List ℕ) : Type 0 where
  pub outcomes : List Outcome
  pub read : Reads file 0 outcomes
  pub lines : text ≡ lines_from file 1 outcomes

-- ---- turn by turn

abbrev pub on_from : Outcome → Option ℕ
on_from Outcome.ends = None
on_from (Outcome.gives number []) = None
on_from (Outcome.gives number (next ∷ values)) = Some next

pub record Turned (file : List ℕ) (at k : ℕ) (r : Turn) : Type 0 where
  pub bytes : r.text ≡ line_for file k (read_at file at)
  pub goes : r.next ≡ on_from (read_at file at)

abbrev pub TurnedBy : Read → List ℕ → ℕ → Turn → Type 0
TurnedBy read bytes k r = (file : List ℕ) (at : ℕ) → told_read read ≡ read_at file at → bytes ≡ bytes_of file read
    → Turned file at k r

abbrev pub Ahead : Read → List ℕ → ℕ → Type 0
Ahead read bytes n = (file : List ℕ) (at : ℕ) → told_read read ≡ read_at file at → bytes ≡ bytes_of file read
    → length file ≤ 65536 → at ≤ length file → at + head_length ≤ n

pub data Prints (file : List ℕ) : ℕ → ℕ → List ℕ → Type 0 where
  last : {at k : ℕ} → on_from (read_at file at) ≡ None → Prints file at k (line_for file k (read_at file at))
  more : {at k next : ℕ} {text : List ℕ} → on_from (read_at file at) ≡ Some next
      → Prints file next (k + 1) text
      → Prints file at k (line_for file k (read_at file at) ++ text)
