-- `corrector_locator::shifted` meets its contract.
-- Assumes nothing.
use mathlib.Core.Path.{◌≡◌}
use Prim.Native.Nat.{◌≤◌}
use lib.ListN.{length, replicate}
use Rattle.corrector_code.specs.Key.{shift}
use Rattle.corrector_code.specs.Eleven.{F11}
use Rattle.slices.proofs.Filling.{Filling}
use Rattle.corrector_locator.proofs.shifted.Given as goal

abbrev pub invariant-loop-i : goal.invariant-loop-i
invariant-loop-i l = (length l.p ≡ 9) × (2 ≤ l.i) × Filling (shift F11 l.p) (replicate 9 0) l.r l.i
