-- `corrector_locator::all_sums` meets its contract.
-- Assumes nothing.
use mathlib.Core.Path.{◌≡◌}
use lib.ListN.{length}
use Rattle.corrector_locator.proofs.Squares.{Squaring}
use Rattle.corrector_locator.proofs.all_sums.Given as goal

abbrev pub invariant-loop-i : goal.invariant-loop-i
invariant-loop-i l = (length l.odd ≡ 8) × Squaring l.odd l.s l.i
