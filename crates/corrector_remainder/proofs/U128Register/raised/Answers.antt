-- `corrector_remainder::Register::raised` of u128 meets its contract: one test over the table.
-- Assumes nothing.
use Rattle.corrector_generator.specs.Generators.{generator_of}
use Rattle.corrector_generator.proofs.Tables.{each}
use Rattle.corrector_remainder.specs.declared.raised.TheConstants.{RAISED8}
use Rattle.corrector_remainder.proofs.Strengths.{raised_test, raised_at}
use Rattle.corrector_remainder.proofs.U128Register.raised.Goals as goal

pub returns : goal.returns
unfolding raised_test each generator_of
returns c = raised_at 8 c.args.t RAISED8 tt c.requires.0 c.requires.1
