-- The three records of docs/RULES.md section 6.4: their lines are exactly those that it prints.
--   sample-text    1 0 3 4 1 2 3, 2 1 and 3 0 3 0 1 6 7, each ended by a line feed
--   sample-lines   the law
-- Assumes nothing.
use mathlib.Core.Path.{refl}
use mathlib.Core.List.{List, [], ◌∷◌}
use Prim.Native.Nat.{ℕ}
use Rattle.algebra.specs.Trial.{up_from}
use Rattle.algebra.specs.Field.{power, trace}
use Rattle.algebra.specs.Polynomial.{eval, roots_of}
use Rattle.field.specs.Rows.{known_in, poly_in}
use Rattle.field.specs.Field.{mul}
use Rattle.input.specs.Cutoff.{in_force_by}
use Rattle.table_rules.specs.Groups.{groups_at, group_count, sum_below, agrees}
use Rattle.table_rules.specs.Groups.{bit_words as bit_words}
use Rattle.job_records.specs.Layout.{words}
use Rattle.job_text.specs.Lines.{decimal_in, decimal, spaced}
use Rattle.job_records.proofs.Example.{sample, sample-reads}
use Rattle.job_lines.specs.Printing.{lines_from, LinesOf}

abbrev pub sample-text : List ℕ
sample-text =
    49 ∷ 32 ∷ 48 ∷ 32 ∷ 51 ∷ 32 ∷ 52 ∷ 32 ∷ 49 ∷ 32 ∷ 50 ∷ 32 ∷ 51 ∷ 10
    ∷ 50 ∷ 32 ∷ 49 ∷ 10
    ∷ 51 ∷ 32 ∷ 48 ∷ 32 ∷ 51 ∷ 32 ∷ 48 ∷ 32 ∷ 49 ∷ 32 ∷ 54 ∷ 32 ∷ 55 ∷ 10 ∷ []

pub sample-lines : LinesOf sample sample-text
unfolding lines_from decimal_in decimal spaced words known_in poly_in roots_of up_from eval mul trace power bit_words groups_at group_count sum_below agrees in_force_by
sample-lines = record { outcomes = _; read = sample-reads; lines = refl }
