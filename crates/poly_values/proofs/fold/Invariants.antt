-- `poly_values::fold` meets its contract: the words from 11 + k up are taken back.
-- Assumes nothing.
use mathlib.Core.Path.{◌≡◌}
use Prim.Native.Nat.{◌+◌}
use lib.ListN.{take}
use Rattle.poly_values.specs.Planes.{taps11, folded}
use Rattle.poly_values.proofs.fold.Given as goal

abbrev pub invariant-loop-k : goal.invariant-loop-k
invariant-loop-k l = folded taps11 l.k (take (11 + l.k) l.t) ≡ folded taps11 11 l.initial.t
