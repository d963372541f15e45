-- `poly_values::put_vector` meets its contract: k words are copied.
-- Assumes nothing.
use mathlib.Core.Path.{◌≡◌}
use lib.Seq.{paste}
use Rattle.poly_values.proofs.put_vector.Given as goal

abbrev pub invariant-loop-k : goal.invariant-loop-k
invariant-loop-k l = l.p ≡ paste l.initial.p l.at l.v l.k
