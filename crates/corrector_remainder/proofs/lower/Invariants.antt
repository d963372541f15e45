-- `corrector_remainder::lower` meets its contract.
-- Assumes nothing.
use Rattle.corrector_remainder.proofs.Loops.{Lessening}
use Rattle.corrector_remainder.proofs.lower.Given as goal

abbrev pub invariant-loop : goal.invariant-loop
invariant-loop g l =
    let number = g.R.Register.number in Lessening l.n (number l.fn.g) (number l.fn.x) (number l.r) (number l.h) l.counter
