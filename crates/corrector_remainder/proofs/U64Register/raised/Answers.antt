-- `corrector_remainder::Register::raised` of u64 meets its contract: one test over the table.
-- Assumes nothing.
use Rattle.corrector_generator.specs.Generators.{generator_of}
use Rattle.corrector_generator.proofs.Tables.{each}
use Rattle.corrector_remainder.specs.declared.raised.TheConstants.{RAISED5}
use Rattle.corrector_remainder.proofs.Strengths.{raised_test, raised_at}
use Rattle.corrector_remainder.proofs.U64Register.raised.Goals as goal

pub returns : goal.returns
unfolding raised_test each generator_of
returns c = raised_at 5 c.args.t RAISED5 tt c.requires.0 c.requires.1
