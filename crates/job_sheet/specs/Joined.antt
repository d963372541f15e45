-- Figures added up, and the figures of two files one behind the other (docs/RULES.md section 13.3).
--   plus            the sum of numbers;  plus_each  sums by place
--   outcomes_in      how many outcomes figures tell of: accepted and refused in each field, unknown fields, 11 and 12
--   peak_on          a peak of a file that n outcomes stand before;  counted_on  so of what may be none
--   joined_field, joined_fields, joined_figures   the figures of two files: sums, and the better of the highest
-- Assumes nothing.
use Rattle.std.specs.Prelude.{ℕ, ◌+◌, List, [], ◌∷◌, map, Option, Some, None}
use Rattle.job_sheet.specs.Figures.{Peak, better, FieldFigures, Figures}

unfoldable pub plus : List ℕ → ℕ
plus [] = 0
plus (n ∷ l) = n + plus l

abbrev pub outcomes_in : Figures → ℕ
outcomes_in f = plus (map (λ l. l.accepted + plus l.refused) f.fields) + f.unknown + f.mark + f.short

abbrev pub peak_on : ℕ → Peak → Peak
peak_on n p = record { place = n + p.place; steps = p.steps; limit = p.limit }

abbrev pub counted_on : ℕ → Option Peak → Option Peak
counted_on n None = None
counted_on n (Some p) = Some (peak_on n p)

-- sums by place
unfoldable pub plus_each : List ℕ → List ℕ → List ℕ
plus_each [] l = l
plus_each (a ∷ k) [] = a ∷ k
plus_each (a ∷ k) (b ∷ l) = (a + b) ∷ plus_each k l

abbrev pub joined_field : ℕ → FieldFigures → FieldFigures → FieldFigures
joined_field n a b = record {
  accepted = a.accepted + b.accepted;
  refused = plus_each a.refused b.refused;
  roots = a.roots + b.roots;
  steps = a.steps + b.steps;
  highest = better a.highest (counted_on n b.highest);
}

unfoldable pub joined_fields : ℕ → List FieldFigures → List FieldFigures → List FieldFigures
joined_fields n [] l = l
joined_fields n (a ∷ k) [] = a ∷ k
joined_fields n (a ∷ k) (b ∷ l) = joined_field n a b ∷ joined_fields n k l

-- the records of the second are numbered on behind the outcomes of the first
abbrev pub joined_figures : Figures → Figures → Figures
joined_figures a b = record {
  fields = joined_fields (outcomes_in a) a.fields b.fields;
  unknown = a.unknown + b.unknown;
  mark = a.mark + b.mark;
  short = a.short + b.short;
}
