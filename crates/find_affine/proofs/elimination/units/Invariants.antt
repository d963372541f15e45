-- `find_affine::elimination::units` meets its contract: the first entries are the powers of two.
-- Assumes nothing.
use Prim.Native.Nat.{ℕ, ◌^◌}
use Rattle.find_affine.proofs.RowLoops.{Filling}
use Rattle.find_affine.proofs.elimination.units.Given as goal

abbrev pub invariant-loop-j : goal.invariant-loop-j
invariant-loop-j l = Filling (λ (i : ℕ). 2 ^ i) l.out l.j
