-- The figures of the three records of docs/RULES.md section 6.4, by evaluation: at record 1 the steps meet their limit,
-- record 2 names a field that does not exist, and the limit of record 3 is 0.
--   sample-figures   two records of field 4 accepted, with 6 roots and 4 steps; the highest is the first
-- Assumes nothing.
use Rattle.std.proofs.Common.{◌≡◌, [], ◌∷◌, refl}
use Rattle.std.specs.Prelude.{Some}
use Rattle.refusals.specs.Order.{decide}
use Rattle.algebra.specs.Trial.{up_from}
use Rattle.algebra.specs.Field.{power, trace}
use Rattle.algebra.specs.Polynomial.{eval, roots_of}
use Rattle.field.specs.Rows.{known_in, poly_in}
use Rattle.field.specs.Field.{mul}
use Rattle.slices.specs.Bounded.{all_below}
use Rattle.input.specs.Cutoff.{in_force_by}
use Rattle.table_rules.specs.Groups.{groups_at, group_count, sum_below, agrees, bit_words}
use Rattle.job_records.specs.Layout.{words}
use Rattle.job_records.specs.Reading.{judged, read_here}
use Rattle.job_records.proofs.Example.{sample}
use Rattle.job_sheet.specs.Entries.{entry_here, entries_behind, entries}
use Rattle.job_sheet.specs.Figures.{count_of, sum_of, better, highest_from, figures_of}
use Rattle.job_sheet.specs.Adding.{no_figures}

pub sample-figures : figures_of (entries sample)
    ≡ record {
      fields = record {
        accepted = 2;
        refused = 0 ∷ 0 ∷ 0 ∷ 0 ∷ 0 ∷ [];
        roots = 6;
        steps = 4;
        highest = Some (record { place = 1; steps = 4; limit = 4 });
      } ∷ no_figures ∷ no_figures ∷ [];
      unknown = 1;
      mark = 0;
      short = 0;
    }
unfolding count_of sum_of better highest_from entry_here entries_behind read_here judged decide known_in poly_in all_below words roots_of up_from eval mul trace power bit_words groups_at group_count sum_below agrees in_force_by
sample-figures = refl
