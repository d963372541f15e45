-- `poly_values::multiple_by_table` meets its contract: from pair `pair` up the multiple is done. (b is the table's second
-- vector.)
-- Assumes nothing.
use Prim.Native.Nat.{◌*◌, ◌/◌, ◌^◌}
use Rattle.poly_values.specs.Planes.{taps11, words_at, Multiple}
use Rattle.poly_values.proofs.multiple_by_table.Given as goal

abbrev pub invariant-loop-pair : goal.invariant-loop-pair
invariant-loop-pair l = Multiple taps11 (l.c / 2 ^ (2 * l.pair)) (words_at 11 l.t 11) l.r
