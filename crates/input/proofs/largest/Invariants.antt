-- `input::largest` meets its contract: at each turn all coefficients are below a bound if `top` and those ahead
-- are.
-- Assumes nothing.
use Rattle.input.proofs.Seeking.{SeekingTop}
use Rattle.input.proofs.largest.Given as goal

abbrev pub invariant-loop-c : goal.invariant-loop-c
invariant-loop-c l = SeekingTop l.coeffs l.top l.c-index
