-- What is promised of the monthly sheet, of whatever its contract admits.
--   MonthlySheet   the entries are the outcomes; accepted and refused add up to them; the highest; the sheet of joined
--                  files; one sheet for a file
-- Assumes nothing.
use Rattle.std.specs.Prelude.{◌≡◌, List, ◌++◌, map, ℕ, length}
use Rattle.field.specs.Rows.{rows}
use Rattle.job_records.specs.Reading.{Outcome}
use Rattle.job_records.specs.Files.{Reads}
use Rattle.job_sheet.specs.Entries.{number_given, entries}
use Rattle.job_sheet.specs.Highest.{HighestEach}
use Rattle.job_sheet.specs.Joined.{outcomes_in, joined_figures}
use Rattle.job_sheet.specs.Calls.{told_sheet, Sheets}
use Rattle.job_sheet.specs.declared.Sheet.{Sheet}

pub record MonthlySheet : Type 0 where
  -- each outcome that reading a file gives is one entry, under the same number
  pub outcomes : (file : List ℕ) (os : List Outcome) → Reads file 0 os
      → map (λ e. e.number) (entries file) ≡ map number_given os
  -- accepted and refused add up to the outcomes given
  pub add-up : (file : List ℕ) (os : List Outcome) (s : Sheet) → Reads file 0 os → Sheets file s
      → outcomes_in (told_sheet s) ≡ length os
  -- the highest is at least every other as a fraction, and the first such; ties go to the earlier, limit 0 does not
  -- compete
  pub highest : (file : List ℕ) (s : Sheet) → Sheets file s → HighestEach (entries file) rows (told_sheet s).fields
  -- where the first of two files ends cleanly, the figures of the joined file are the sums, and its highest is the
  -- better of the two, the earlier on a tie, its number counted on
  pub joined : (f g : List ℕ) (s t u : Sheet) → Sheets f s → Sheets g t → Sheets (f ++ g) u → (told_sheet s).mark ≡ 0
      → (told_sheet s).short ≡ 0
      → told_sheet u ≡ joined_figures (told_sheet s) (told_sheet t)
  -- the sheet is determined by the file
  pub one : (file : List ℕ) (s t : Sheet) → Sheets file s → Sheets file t → s ≡ t
