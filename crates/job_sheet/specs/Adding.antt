-- The figures with one record more: what the steps of the code answer.
--   place_in         the place of a key among keys
--   degrees         the degrees of the rows;  place_of  the place of a field among them
--   risen           the highest with one record more, which competes where it has a limit
--   no_figures       the figures of a field with nothing counted
--   with_accepted    the figures of a field with one accepted record more, by its number in the file, its roots, steps
--                   and limit
--   with_refused     with one more that is refused under a number
--   stop_number      the number under which reading stopped;  ended_sheet  the sheet where it ends, or stops under 11 or 12
--   JobStands       an accepted record stands somewhere in a file
--   CountedIs       what an accepted record counts
--   RoomForRecord, RoomForRefusal   one more can be counted
-- Assumes nothing.
use Rattle.std.specs.Prelude.{◌≡◌, ℕ, suc, ◌+◌, ◌-◌, ◌^◌, ◌<◌, ◌≤◌, cond, List, [], ◌∷◌, map, length, ◌==◌, slice_index, slice_index_or, slice_set, Option, Some, None}
use Rattle.refusals.specs.Numbers.{number_of}
use Rattle.refusals.specs.declared.Refusal.{Refusal}
use Rattle.field.specs.Rows.{rows}
use Rattle.field.specs.Field.{roots_at}
use Rattle.input.specs.Cutoff.{in_force}
use Rattle.table_rules.specs.Demand.{steps_at}
use Rattle.table_rules.specs.Table.{step_limit}
use Rattle.job_records.specs.Layout.{words, part}
use Rattle.job_records.specs.Reading.{told_read, read_at}
use Rattle.job_records.specs.declared.Job.{Job}
use Rattle.job_records.specs.declared.Read.TheVariants.{Record}
use Rattle.job_solve.specs.Solving.{cutoff_of}
use Rattle.job_sheet.specs.Figures.{Peak, better, FieldFigures}
use Rattle.job_sheet.specs.declared.Counted.{Counted}
use Rattle.job_sheet.specs.declared.FieldLine.{FieldLine}
use Rattle.job_sheet.specs.declared.Sheet.{Sheet}

-- how many stand before it
unfoldable pub place_in : List ℕ → ℕ → ℕ
place_in [] m = 0
place_in (k ∷ ks) m = cond (k == m) 0 (suc (place_in ks m))

abbrev pub degrees : List ℕ
degrees = map (λ r. r.0) rows

abbrev pub place_of : ℕ → ℕ
place_of m = place_in degrees m

unfoldable pub risen : Option Peak → Peak → Option Peak
risen p q = cond (q.limit == 0) p (better p (Some q))

abbrev pub no_figures : FieldFigures
no_figures = record { accepted = 0; refused = 0 ∷ 0 ∷ 0 ∷ 0 ∷ 0 ∷ []; roots = 0; steps = 0; highest = None }

abbrev pub with_accepted : FieldFigures → ℕ → ℕ → ℕ → ℕ → FieldFigures
with_accepted f k s steps limit = record {
  accepted = f.accepted + 1;
  refused = f.refused;
  roots = f.roots + s;
  steps = f.steps + steps;
  highest = risen f.highest (record { place = k; steps = steps; limit = limit });
}

-- 2 stands first
abbrev pub with_refused : FieldFigures → ℕ → FieldFigures
with_refused f n = record {
  accepted = f.accepted;
  refused = slice_set f.refused (n - 2) (slice_index f.refused (n - 2) + 1);
  roots = f.roots;
  steps = f.steps;
  highest = f.highest;
}

-- 0 where reading did not stop
abbrev pub stop_number : Option Refusal → ℕ
stop_number None = 0
stop_number (Some k) = number_of k

-- 11 or 12 is counted once, and nothing else
abbrev pub ended_sheet : List FieldLine → ℕ → ℕ → Sheet
ended_sheet lines unknown n = record {
  lines = lines;
  unknown = unknown;
  mark = cond (n == 11) 1 0;
  short = cond (n == 12) 1 0;
}

-- the place is the caller's
pub record JobStands (file : List ℕ) (j : Job) : Type 0 where
  pub at : ℕ
  pub read : told_read (Record j) ≡ read_at file at

-- of the polynomial that its bytes spell, at the cutoff that it states
pub record CountedAt (m c : ℕ) (cs : List ℕ) (r : Counted) : Type 0 where
  pub roots : r.roots ≡ length (roots_at m cs)
  pub steps : r.steps ≡ steps_at m c cs
  pub limit : r.limit ≡ step_limit m (in_force c) (length (roots_at m cs))

abbrev pub CountedIs : List ℕ → Job → Counted → Type 0
CountedIs file j r = CountedAt j.m (cutoff_of j) (words (part file j.start j.len)) r

pub record RoomForRecord (l : FieldLine) (c : Counted) : Type 0 where
  pub accepted : l.accepted + 1 < 2 ^ 64
  pub roots : l.roots + c.roots < 2 ^ 64
  pub steps : l.steps + c.steps < 2 ^ 128

pub record RoomForRefusal (l : FieldLine) (n : ℕ) : Type 0 where
  pub least : 2 ≤ n
  pub most : n ≤ 6
  pub count : slice_index_or l.refused (n - 2) 0 + 1 < 2 ^ 64
