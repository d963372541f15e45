-- What the call that makes the sheet answers, for every file (docs/RULES.md section 13.2).
--   told_peak    a record of the code's answer;  told_highest  the highest, or none
--   told_field   the figures of a field, of the code's answer;  told_fields  of all fields
--   told_sheet   the figures of the code's answer
--   Sheets      THE CONTRACT: the answer is the figures of the file's entries
-- Assumes nothing.
use Rattle.std.specs.Prelude.{◌≡◌, ℕ, List, map, Option, Some, None}
use Rattle.job_sheet.specs.Entries.{entries}
use Rattle.job_sheet.specs.Figures.{Peak, FieldFigures, Figures, figures_of}
use Rattle.job_sheet.specs.declared.Highest.{Highest}
use Rattle.job_sheet.specs.declared.FieldLine.{FieldLine}
use Rattle.job_sheet.specs.declared.Sheet.{Sheet}

abbrev pub told_peak : Highest → Peak
told_peak h = record { place = h.record_number; steps = h.steps; limit = h.limit }

abbrev pub told_highest : Option Highest → Option Peak
told_highest None = None
told_highest (Some h) = Some (told_peak h)

abbrev pub told_field : FieldLine → FieldFigures
told_field l = record {
  accepted = l.accepted;
  refused = l.refused;
  roots = l.roots;
  steps = l.steps;
  highest = told_highest l.highest;
}

abbrev pub told_sheet : Sheet → Figures
told_sheet s = record {
  fields = map told_field s.lines;
  unknown = s.unknown;
  mark = s.mark;
  short = s.short;
}

abbrev pub Sheets : List ℕ → Sheet → Type 0
Sheets file s = told_sheet s ≡ figures_of (entries file)
