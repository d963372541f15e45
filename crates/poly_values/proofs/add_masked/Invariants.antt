-- `poly_values::add_masked` meets its contract: j words are added.
-- Assumes nothing.
use mathlib.Core.Path.{◌≡◌}
use mathlib.Core.List.{map}
use lib.Bits.{bit_and}
use lib.ListN.{take}
use Rattle.poly_values.specs.Planes.{sum}
use Rattle.poly_values.proofs.add_masked.Given as goal

abbrev pub invariant-loop-j : goal.invariant-loop-j
invariant-loop-j l = l.t ≡ sum (take l.j (map (bit_and l.w) l.b)) l.initial.t
