-- `corrector_locator::plus_times` meets its contract.
-- Assumes nothing.
use mathlib.Core.Path.{◌≡◌}
use lib.ListN.{length}
use Rattle.corrector_code.specs.Key.{plus_times}
use Rattle.corrector_code.specs.Eleven.{F11}
use Rattle.slices.proofs.Filling.{Filling}
use Rattle.corrector_locator.proofs.plus_times.Given as goal

abbrev pub invariant-loop-i : goal.invariant-loop-i
invariant-loop-i l = (length l.initial.p ≡ 9) × (length l.q ≡ 9) × Filling (plus_times F11 l.initial.p l.d l.q) l.initial.p l.p l.i
