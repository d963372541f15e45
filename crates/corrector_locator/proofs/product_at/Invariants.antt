-- `corrector_locator::product_at` meets its contract.
-- Assumes nothing.
use mathlib.Core.Path.{◌≡◌}
use lib.ListN.{length, get_or}
use Rattle.corrector_locator.proofs.Loops.{Convolving}
use Rattle.corrector_locator.proofs.product_at.Given as goal

abbrev pub invariant-loop-i : goal.invariant-loop-i
invariant-loop-i l = (length l.p ≡ 9) × Convolving l.p (λ j. get_or l.s j 0) l.k l.d l.i
