-- `corrector_generator::rows5::back` meets its contract: one test over each table.
-- Assumes nothing.
use native.Mathlib.Omega.{arith}
use Rattle.field.specs.Field.{reduce, horner, cut}
use Rattle.corrector_generator.specs.declared.rows5.TheConstants.{ROW0, ROW7, ROW14, ROW20, ROW26}
use Rattle.corrector_generator.specs.Generators.{generator_of, generator_at, back_from_top}
use Rattle.corrector_generator.proofs.Tables.{row_test, brought}
use Rattle.corrector_generator.proofs.rows5.back.Goals as goal

pub returns : goal.returns
unfolding row_test back_from_top generator_of reduce horner cut
returns c = brought (generator_at 5) c.args.t (omega (arith, c.ranges.t.fits)) ROW0 ROW7 ROW14 ROW20 ROW26 tt tt tt tt tt
