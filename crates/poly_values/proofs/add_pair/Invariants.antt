-- `poly_values::add_pair` meets its contract: j words are added.
-- Assumes nothing.
use mathlib.Core.Path.{◌≡◌}
use lib.ListN.{take}
use Rattle.poly_values.specs.Planes.{sum, pair_words}
use Rattle.poly_values.proofs.add_pair.Given as goal

abbrev pub invariant-loop-j : goal.invariant-loop-j
invariant-loop-j l = l.t ≡ sum (take l.j (pair_words 12 l.v l.w l.b)) l.initial.t
