-- The figures of the sheet (docs/RULES.md section 13.2), over the entries of a file.
--   count_of       how many entries pass a test;  sum_of  the sum of a figure over the entries that pass it
--   under         is an entry one of a field, under a number?  accepted_in  under 0
--   competes      is it an accepted one of the field whose limit is not 0?
--   Peak          a record by its number in the file, its steps and their limit
--   peak_of        an entry as a peak, by its number
--   stands_lower   does the first stand lower against its limit than the second? s/l < t/k is s k < t l
--   higher        the higher of two, the first where they stand equally high
--   better        so of what may be none: where one is none, the other
--   highest_from   the record of a field whose steps stand highest against their limit, the first of them where several
--                 do; the first entry has the number k
--   refused_numbers   the numbers that a record of a known field is refused under
--   FieldFigures  what the sheet has of a field;  figures_at  of the entries
--   Figures       what the sheet has of a file;  figures_of  of the entries, one line for each known field
-- Assumes nothing.
use Rattle.std.specs.Prelude.{ℕ, suc, ◌+◌, ◌*◌, Bool, cond, not, ◌&&◌, List, [], ◌∷◌, map, ◌==◌, nat_lt, Option, Some, None}
use Rattle.field.specs.Rows.{rows}
use Rattle.job_sheet.specs.Entries.{Entry}

unfoldable pub count_of : (Entry → Bool) → List Entry → ℕ
count_of t [] = 0
count_of t (e ∷ es) = cond (t e) (suc (count_of t es)) (count_of t es)

unfoldable pub sum_of : (Entry → ℕ) → (Entry → Bool) → List Entry → ℕ
sum_of f t [] = 0
sum_of f t (e ∷ es) = cond (t e) (f e + sum_of f t es) (sum_of f t es)

abbrev pub numbered : ℕ → Entry → Bool
numbered k e = e.number == k

abbrev pub under : ℕ → ℕ → Entry → Bool
under m k e = e.field == m && numbered k e

abbrev pub accepted_in : ℕ → Entry → Bool
accepted_in m = under m 0

abbrev pub competes : ℕ → Entry → Bool
competes m e = accepted_in m e && not (e.limit == 0)

pub record Peak : Type 0 where
  pub place : ℕ
  pub steps : ℕ
  pub limit : ℕ

abbrev pub peak_of : ℕ → Entry → Peak
peak_of k e = record { place = k; steps = e.steps; limit = e.limit }

-- whole numbers, without rounding
abbrev pub stands_lower : Peak → Peak → Bool
stands_lower p q = nat_lt (p.steps * q.limit) (q.steps * p.limit)

-- ties go to the first
abbrev pub higher : Peak → Peak → Peak
higher p q = cond (stands_lower p q) q p

unfoldable pub better : Option Peak → Option Peak → Option Peak
better None q = q
better (Some p) None = Some p
better (Some p) (Some q) = Some (higher p q)

-- limit 0 does not compete
unfoldable pub highest_from : ℕ → ℕ → List Entry → Option Peak
highest_from m k [] = None
highest_from m k (e ∷ es) =
    cond (competes m e) (better (Some (peak_of k e)) (highest_from m (suc k) es)) (highest_from m (suc k) es)

-- the record's number is counted from 1 over all records of the file
pub record FieldFigures : Type 0 where
  pub accepted : ℕ
  pub refused : List ℕ
  pub roots : ℕ
  pub steps : ℕ
  pub highest : Option Peak

abbrev pub refused_numbers : List ℕ
refused_numbers = 2 ∷ 3 ∷ 4 ∷ 5 ∷ 6 ∷ []

abbrev pub figures_at : List Entry → ℕ → FieldFigures
figures_at es m = record {
  accepted = count_of (accepted_in m) es;
  refused = map (λ k. count_of (under m k) es) refused_numbers;
  roots = sum_of (λ e. e.roots) (accepted_in m) es;
  steps = sum_of (λ e. e.steps) (accepted_in m) es;
  highest = highest_from m 1 es;
}

-- how many were 1, 11 and 12 stand apart
pub record Figures : Type 0 where
  pub fields : List FieldFigures
  pub unknown : ℕ
  pub mark : ℕ
  pub short : ℕ

abbrev pub figures_of : List Entry → Figures
figures_of es = record {
  fields = map (λ r. figures_at es r.0) rows;
  unknown = count_of (numbered 1) es;
  mark = count_of (numbered 11) es;
  short = count_of (numbered 12) es;
}
