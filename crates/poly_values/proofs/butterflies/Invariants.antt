-- `poly_values::butterflies` meets its contract: w butterflies are done.
-- Assumes nothing.
use mathlib.Core.Path.{◌≡◌}
use Rattle.poly_values.specs.Planes.{taps11, words_at, butterflies_at}
use Rattle.poly_values.proofs.butterflies.Given as goal

abbrev pub invariant-loop-w : goal.invariant-loop-w
invariant-loop-w l = l.p ≡ butterflies_at taps11 (words_at 11 l.g 0) l.up l.w l.initial.p
