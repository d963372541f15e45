-- `corrector_locator::key` meets its contract.
-- Assumes nothing.
use lib.ListN.{get_or}
use Rattle.corrector_locator.proofs.Fine.{Turning}
use Rattle.corrector_locator.proofs.key.Given as goal

abbrev pub invariant-loop-m : goal.invariant-loop-m
invariant-loop-m l = Turning (λ j. get_or l.s j 0) l.t l.r l.m
