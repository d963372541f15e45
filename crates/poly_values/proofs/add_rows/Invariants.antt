-- `poly_values::add_rows` meets its contract: the rows of the digits from 2 pair up are added.
-- Assumes nothing.
use mathlib.Core.Path.{◌≡◌}
use mathlib.Core.List.{◌++◌}
use Prim.Native.Nat.{◌*◌}
use lib.ListN.{length, take, drop, replicate}
use Rattle.poly_values.specs.Planes.{carry_free_words, words_at}
use Rattle.poly_values.proofs.add_rows.Given as goal

abbrev pub invariant-loop-pair : goal.invariant-loop-pair
invariant-loop-pair l = (length l.t ≡ 22) × (l.t ≡ replicate (2 * l.pair) 0 ++ carry_free_words (drop (2 * l.pair) (words_at 11 l.e 0)) (take 11 (drop 1 l.c)))
