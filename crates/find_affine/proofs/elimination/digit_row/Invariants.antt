-- `find_affine::elimination::digit_row` meets its contract: behind some entries those are mapped.
-- Assumes nothing.
use Prim.Native.Nat.{◌/◌, ◌%◌, ◌^◌}
use Rattle.find_affine.proofs.RowLoops.{Mapping}
use Rattle.find_affine.proofs.elimination.digit_row.Given as goal

abbrev pub invariant-loop-a : goal.invariant-loop-a
invariant-loop-a l = Mapping (λ a. a / 2 ^ l.i % 2) 0 l.initial.a-items l.a-items l.a-index
