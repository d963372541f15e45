-- `corrector_remainder::rest` meets its contract.
-- Assumes nothing.
use Prim.Native.Nat.{◌*◌}
use Rattle.corrector_generator.specs.Generators.{generator_at}
use Rattle.corrector_remainder.proofs.Dividing.{Resting}
use Rattle.corrector_remainder.proofs.rest.Given as goal

abbrev pub invariant-loop-k : goal.invariant-loop-k
invariant-loop-k g l = Resting (generator_at g.R.Register.STRENGTH) l.word (g.R.Register.number l.r) (4 * l.k)
